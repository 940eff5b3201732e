-- The calls of a script that the writer does not refuse are those given: what is no mask does not look
-- at the mask bytes, and a mask has the bytes that it takes in turn. Assumes nothing.
use mathlib.Core.Path.{◌≡◌, refl, sym, ap, ◌∙◌}
use mathlib.Core.Bool.{Bool, true, false, cond, ◌||◌}
use mathlib.Core.List.{List, [], ◌∷◌, ◌++◌, map}
use Prim.Native.Nat.{ℕ, ◌+◌, ◌-◌, ◌≤◌}
use native.Mathlib.Omega.{arith}
use lib.Dec.{eqb}
use lib.ListN.{length, take, drop, get_or, length-drop}
use lib.Seq.{drop-drop, take-append-le, drop-append-le}
use borrow.Author.Tests.{eqb-true}
use Rattle.stems.specs.Mask.{mask_of}
use Rattle.hints.specs.Calls.{Call, hint_mask, counter_mask}
use Rattle.commands.specs.declared.reading.Marking.TheVariants.{Bad, Stem, Mask, Counter, Clear, Close}
use Rattle.commands.specs.declared.reading.Command.{Command}
use Rattle.commands.specs.declared.reading.Command.TheVariants.{Mark, Draw}
use Rattle.commands.specs.Commands.{command_of}
use Rattle.run.specs.Run.{Asked, call_of, calls_of}
use Rattle.writer.specs.Pieces.{Piece, piece_words, is_mask, bytes_taken, started, starts_from}
use Rattle.writer.specs.Refusals.{too_long, piece_rows}
use Rattle.writer.proofs.PieceFaults.{NoneHold, taken-left}
use Rattle.round_trips.specs.RoundTrips.{parts_in, piece_word, call_given, calls_given}
use Rattle.round_trips.proofs.Commands.{by_kind, commands_as}

-- a command without a mask is the same call, whatever the mask bytes are
maskless : (s l : List ℕ) (m n : ℕ) (c : Command) → parts_in c ≡ [] → call_of s m c ≡ call_of l n c
maskless s l m n (Mark Bad) e = refl
maskless s l m n (Mark (Stem min max)) e = refl
maskless s l m n (Mark (Mask start len)) e = absurd (omega (arith, ap length e))
maskless s l m n (Mark (Counter start len)) e = absurd (omega (arith, ap length e))
maskless s l m n (Mark Clear) e = refl
maskless s l m n (Mark Close) e = refl
maskless s l m n (Draw p) e = refl

-- a mask is that of its bytes
mask-call : (s l : List ℕ) (m n : ℕ) (v w : ℕ → ℕ) (k : ℕ) → is_mask k ≡ true →
    take (v 2) (drop (m + v 1) s) ≡ take (w 2) (drop (n + w 1) l) →
    call_of s m (command_of v 0 k) ≡ call_of l n (command_of w 0 k)
unfolding command_of
mask-call s l m n v w k e q = by (eqb k 2) refl e
  where
    by : (b : Bool) → eqb k 2 ≡ b → (b || eqb k 3) ≡ true → call_of s m (command_of v 0 k) ≡ call_of l n
        (command_of w 0 k)
    by true f g = rw (eqb-true k 2 f) (ap (λ (bs : List ℕ). hint_mask (mask_of bs)) q)
    by false f g = rw (eqb-true k 3 g) (ap (λ (bs : List ℕ). counter_mask (mask_of bs)) q)

-- behind so many bytes of a script stand the mask bytes
module _ (s masks zeros : List ℕ) (from : ℕ) (there : drop from s ≡ masks ++ zeros) where
  -- some of them
  pub bytes-there : (n len : ℕ) → n + len ≤ length masks → take len (drop (from + n) s) ≡ take len (drop n masks)
  bytes-there n len h =
      rw (sym (drop-drop n from s), there, drop-append-le n masks zeros (omega arith))
      (take-append-le len (drop n masks) zeros (omega (arith, length-drop n masks)))

  -- the call of a piece is the one that is given
  piece-call : (n left : ℕ) (p : Piece) → too_long (bytes_taken p) left ≡ false → n + left ≤ length masks →
      call_of s from (command_of (piece_word (started n p)) 0 p.kind) ≡ call_given (drop n masks) p
  piece-call n left p t h = by (is_mask p.kind) refl t
    where
      -- its words with a start, if it has one
      put : ℕ → Bool → ℕ → ℕ
      put m b i = get_or (p.kind ∷ cond b (m ∷ p.operands) p.operands) i 0

      by : (b : Bool) → is_mask p.kind ≡ b → too_long (cond b (get_or p.operands 0 0) 0) left ≡ false →
          call_of s from (command_of (put n b) 0 p.kind) ≡ call_of (drop n masks) 0 (command_of (put 0 b) 0 p.kind)
      by true e t =
          let len = get_or p.operands 0 0 in
          mask-call s (drop n masks) from 0 (put n true) (put 0 true) p.kind e
          (bytes-there n len (omega (arith, taken-left len left t)))
      by false e t =
          maskless s (drop n masks) from 0 (command_of (put n false) 0 p.kind)
          (rw e at (by_kind (put n false) 0 0 p.kind).1.1)

  -- so are all of them
  pub pieces-call : (n place at left : ℕ) (ps : List Piece) → NoneHold (piece_rows at left ps) →
      n + left ≤ length masks →
      map (λ (a : Asked). a.call) (calls_of s from (commands_as place (starts_from n ps))) ≡ calls_given (drop n masks)
      ps
  unfolding piece_rows starts_from commands_as calls_of calls_given
  pieces-call n place at left [] c h = refl
  pieces-call n place at left (p ∷ ps) c h =
      let t = bytes_taken p in
      let l = taken-left t left c.1.0 in
      let behind = pieces-call (n + t) (place + length (piece_words (started n p))) (at + length (piece_words p))
      (left - t) ps c.1.1 (omega arith) in
      rw (piece-call n left p c.1.0 h)
      (ap (λ (cs : List Call). call_given (drop n masks) p ∷ cs)
      (behind ∙ ap (λ (l : List ℕ). calls_given l ps) (sym (drop-drop t n masks))))
