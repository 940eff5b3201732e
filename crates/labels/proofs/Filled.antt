-- Laws of the filling: how it stands before a glyph, a glyph more, and where it ends. Assumes nothing.
use mathlib.Core.Path.{◌≡◌, refl, sym, ap, subst, ◌∙◌}
use mathlib.Core.List.{List, [], ◌∷◌, ◌++◌, map}
use Prim.Native.Nat.{ℕ, ◌+◌, ◌/◌, ◌≤◌, ◌<◌}
use native.Mathlib.Omega.{arith}
use lib.IntN.{ℤ, pos}
use lib.ListN.{length, take, drop, length-drop, length-map}
use lib.Seq.{length-take-le}
use Rattle.fixed.specs.Integers.{bits_of}
use Rattle.zones.specs.declared.state.HintState.{HintState}
use Rattle.pen.specs.Records.{written}
use Rattle.hints.specs.Calls.{new_drawing}
use Rattle.words.specs.Bytes.{placed}
use Rattle.words.proofs.Placing.{placed-length}
use Rattle.run.specs.declared.running.Ran.{Ran}
use Rattle.run.specs.Run.{steps_of, ran_of, Ended}
use Rattle.run.specs.Room.{Fitted}
use Rattle.run.proofs.Rooms.{fits_whole}
use Rattle.run.proofs.Counting.{counted}
use Rattle.labels.specs.Glyphs.{Glyph, glyph, glyphs_of, calls_in, records_of}
use Rattle.labels.specs.Labels.{header_of, label_words}
use Rattle.labels.specs.Measured.{size_of, sum_from, Faultless, Settable, set_at, Fillable}
use Rattle.labels.proofs.Walking.{at, Walk, walk, rest, none_left, words-there, onward, first_of, header_is}
use Rattle.labels.proofs.Walking.{glyphs-many}
use Rattle.labels.proofs.Laying.{written_at, laid_from, laid-whole}
use Rattle.labels.proofs.Rooms.{result-length, sum-least}

-- a glyph's records have as many words as were counted
pub size_is : (st : HintState) (g : Glyph) → length (records_of st g) ≡ size_of g
unfolding records_of size_of
size_is st g = counted st (new_drawing st.scale) (calls_in g)

pub sizes-are : (st : HintState) (gs : List Glyph) → map length (map (records_of st) gs) ≡ map size_of gs
sizes-are st [] = refl
sizes-are st (g ∷ gs) = rw (size_is st g, sizes-are st gs)

-- so the result has as many as were measured
pub result-is : (st : HintState) (gs : List Glyph) →
    length (label_words (map (records_of st) gs)) ≡ sum_from (header_of (length gs)) (map size_of gs)
result-is st gs =
    result-length (map (records_of st) gs) ∙
    ap (λ (n : ℕ). sum_from (header_of n) (map length (map (records_of st) gs))) (length-map gs (records_of st)) ∙
    ap (sum_from (header_of (length gs))) (sizes-are st gs)

-- ---- one glyph's run, with room enough: its records from a word on
module _ (st : HintState) (g : Glyph) (out : List ℤ) (next : ℕ) (h : next + size_of g ≤ length out) where
  pub ran-whole : {r : Ran} {left : List ℤ} → Ended (ran_of st (calls_in g) (drop next out)) r left →
      (r.words ≡ length (records_of st g)) × (take next out ++ left ≡ placed out next (records_of st g))
  unfolding ran_of records_of
  ran-whole {r} {left} e =
      let ws = records_of st g in
      let ts = steps_of st (new_drawing st.scale) (calls_in g) in
      let room = length (drop next out) in
      let f = fits_whole room ts (omega (arith, size_is st g, length-drop next out)) in (
        e.words ∙ ap (λ (x : Fitted). length x.words) f,
        ap (λ (l : List ℤ). take next out ++ l)
            (e.memory ∙ ap (λ (x : Fitted). written x.words (drop next out)) f) ∙
            written_at out ws next,
      )

module _ (ls words : List ℤ) (masks : List ℕ) (st : HintState) (out₀ : List ℤ) where
  abbrev records : List Glyph → List (List ℤ)
  records gs = map (records_of st) gs

  -- the glyphs that are left have no fault, their records fit, and laid over the output they give
  -- what all of them laid over the first gives
  pub record Filling (next i word byte : ℕ) (out : List ℤ) : Type 0 where
    pub walks : Walk ls words masks i word byte
    pub faultless : Faultless (rest walks)
    pub fits : sum_from next (map size_of (rest walks)) ≤ length out
    pub small : sum_from next (map size_of (rest walks)) < 2147483648
    pub same : length out ≡ length out₀
    pub header : 2 + length ls ≤ next
    pub laid : laid_from (2 + i) next (records (rest walks)) out ≡
        laid_from 2 (2 + length ls) (records (glyphs_of ls words masks)) out₀

  -- before the first glyph
  pub filling : Fillable ls words masks (length out₀) → Filling (2 + length ls) 0 0 0 out₀
  filling p =
      let w = walk ls words masks p.counted in
      let h = header_is w in
      record {
        walks = w;
        faultless = p.faultless;
        fits = rw h p.fits;
        small = rw h p.word;
        same = refl;
        header = omega arith;
        laid = refl;
      }

-- what all of them laid behind the first two words gives is the result
pub laid-result : (ls words : List ℤ) (masks : List ℕ) (st : HintState) (out : List ℤ) →
    Fillable ls words masks (length out) →
    laid_from 2 (2 + length ls) (map (records_of st) (glyphs_of ls words masks))
    (placed out 0 (pos 1 ∷ pos (length ls / 2) ∷ [])) ≡
    written (label_words (map (records_of st) (glyphs_of ls words masks))) out
laid-result ls words masks st out p =
    let gs = glyphs_of ls words masks in
    let w = walk ls words masks p.counted in
    let k = length-map gs (records_of st) in
    let n : length ls / 2 ≡ length (map (records_of st) gs) =
    omega (arith, w.pairs, k, glyphs-many ls words masks w.left (omega (arith, w.pairs))) in
    let m : 2 + length ls ≡ header_of (length (map (records_of st) gs)) = omega (arith, header_is w, k) in
    rw (m, n) (laid-whole (map (records_of st) gs) out (omega (arith, p.fits, result-is st gs)))

module _ {ls words : List ℤ} {masks : List ℕ} {st : HintState} {out₀ : List ℤ} {next i word byte : ℕ} {out : List ℤ}
    (m : Filling ls words masks st out₀ next i word byte out) where
  -- after the last
  pub filled : length ls ≤ i →
      out ≡ laid_from 2 (2 + length ls) (map (records_of st) (glyphs_of ls words masks)) out₀
  unfolding laid_from
  filled h =
      ap (λ (gs : List Glyph). laid_from (2 + i) next (map (records_of st) gs) out) (sym (none_left m.walks h)) ∙
      m.laid

  -- at a glyph
  module _ (h : i < length ls) {n b : ℕ} (e : n ≡ bits_of (at ls i)) (f : b ≡ bits_of (at ls (i + 1))) where
    abbrev here : Glyph
    here = glyph (take n (drop word words)) (take b (drop byte masks))

    abbrev behind : List Glyph
    behind = glyphs_of (drop (i + 2) ls) (drop (word + n) words) (drop (byte + b) masks)

    first : rest m.walks ≡ here ∷ behind
    first = first_of m.walks h e f

    sums : sum_from next (map size_of (rest m.walks)) ≡ sum_from (next + size_of here) (map size_of behind)
    unfolding sum_from
    sums = ap (λ (gs : List Glyph). sum_from next (map size_of gs)) first

    -- its records fit
    pub settable : n < 2147483648 → Settable here (2 + i) next (length out)
    settable k =
        let l = sum-least (next + size_of here) (map size_of behind) in
        let there = words-there m.walks h e f in
        record {
          short = omega (arith, k, length-take-le n (drop word words) (omega (arith, there, length-drop word words)));
          faultless = (subst Faultless first m.faultless).0;
          before = omega (arith, m.header, m.walks.pairs);
          fits = omega (arith, sums, m.fits);
          word = omega (arith, sums, m.small);
        }

    -- and once they and their place are there, so are the others
    pub onward-filling : {k : ℕ} → k ≡ length (records_of st here) →
        Filling ls words masks st out₀ (next + k) (i + 2) (word + n) (byte + b) (set_at st here (2 + i) next out)
    unfolding laid_from
    onward-filling {k} q =
        let ws = records_of st here in
        let z = size_is st here in
        let l = sum-least (next + size_of here) (map size_of behind) in
        let sum : sum_from (next + k) (map size_of behind) ≡ sum_from next (map size_of (rest m.walks)) =
        rw (q ∙ z) (sym sums) in
        let o = placed out next ws in
        let g = placed-length out next ws (omega (arith, z, sums, m.fits)) in
        let j : 2 + (i + 2) ≡ 2 + i + 2 = omega arith in
        let t = placed-length o (2 + i) (pos next ∷ pos (length ws) ∷ [])
        (omega (arith, g, sums, m.fits, m.header, m.walks.pairs)) in
        record {
          walks = onward m.walks h e f;
          faultless = (subst Faultless first m.faultless).1;
          fits = omega (arith, sum, m.fits, t, g);
          small = omega (arith, sum, m.small);
          same = t ∙ g ∙ m.same;
          header = omega (arith, m.header);
          laid =
              rw (j, q)
              (sym (ap (λ (gs : List Glyph). laid_from (2 + i) next (map (records_of st) gs) out) first) ∙ m.laid);
        }
