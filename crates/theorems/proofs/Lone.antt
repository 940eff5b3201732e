-- How lone calls and opening end, over the outcome that their contracts give. Assumes nothing.
use mathlib.Core.Path.{◌≡◌, refl}
use mathlib.Core.Bool.{Bool, true, false, cond}
use mathlib.Core.List.{List}
use lib.IntN.{ℤ, pos}
use lib.ListN.{length}
use borrow.Author.Tests.{leb-true, leb-false}
use Rattle.fixed.specs.declared.Fixed.{Fixed}
use Rattle.fixed.specs.Fixed.{from_bits, less_f}
use Rattle.fixed.proofs.Order.{heights}
use Rattle.zones.specs.declared.state.HintParams.{HintParams}
use Rattle.zones.specs.declared.state.HintState.{HintState}
use Rattle.zones.specs.State.{counts_fit}
use Rattle.pen.specs.Records.{written, fits}
use Rattle.pen.specs.Drawn.{call_number, call_words}
use Rattle.hints.specs.declared.drawing.Drawing.{Drawing}
use Rattle.drawing.specs.declared.calls.After.{After}
use Rattle.drawing.specs.declared.opening.Opened.{Opened}
use Rattle.hints.specs.Calls.{Call, words_for, room_by}
use Rattle.drawing.specs.After.{Called}
use Rattle.drawing.specs.Open.{open_by, open_of, Opens}
use Rattle.theorems.specs.Lone.{CallEnds, done, refused, OpenEnds, bad_scale, bad_blues, accepted}

-- every outcome of a lone call ends in one of the two ways
pub call_ends : {st : HintState} {d : Drawing} {c : Call} {out : List ℤ} {said : After} {left : List ℤ} →
    Called st d c out said left → CallEnds st d c out said left
call_ends {st} {d} {c} {out} {said} {left} h =
    go (fits (words_for st d c) out) refl h.number h.words h.drawing h.memory
  where
    go : (b : Bool) → fits (words_for st d c) out ≡ b → call_number said.answer ≡ cond b 0 6 →
        call_words said.answer ≡ cond b (length (words_for st d c)) 0 →
        said.drawing ≡ room_by b st d c → left ≡ cond b (written (words_for st d c) out) out →
        CallEnds st d c out said left
    go true f n w g m =
        done (record {
          fits = leb-true (length (words_for st d c)) (length out) f;
          number = n;
          words = w;
          place = refl;
          drawing = g;
          memory = m;
        })
    go false f n w g m =
        refused (record {
          short = leb-false (length (words_for st d c)) (length out) f;
          number = n;
          words = w;
          place = refl;
          drawing = g;
          memory = m;
        })

-- every outcome of an opening ends in one of the three
pub open-ends : (p : HintParams) (s : Fixed) {said : Opened} → Opens (open_of p s) said → OpenEnds p s said
unfolding open_of
open-ends p s {said} h = go (less_f s (from_bits (pos 1))) (counts_fit p) refl refl h
  where
    go : (small fit : Bool) → less_f s (from_bits (pos 1)) ≡ small → counts_fit p ≡ fit →
        Opens (open_by small fit p s) said → OpenEnds p s said
    go true fit e f o =
        bad_scale (record {
          small = omega heights;
          number = o.number;
          blank = record { place = refl; state = o.state; drawing = o.drawing };
        })
    go false false e f o =
        bad_blues (record {
          scale = omega heights;
          counts = f;
          number = o.number;
          blank = record { place = refl; state = o.state; drawing = o.drawing };
        })
    go false true e f o =
        accepted (record {
          scale = omega heights;
          counts = f;
          number = o.number;
          place = refl;
          state = o.state;
          drawing = o.drawing;
        })
