-- Laws of the program's output: number, place and what the writer left are the program's bytes over
-- those that were lent. Assumes nothing.
use mathlib.Core.Path.{◌≡◌, refl, sym, ap, ◌∙◌}
use mathlib.Core.Bool.{Bool, true, false, cond}
use mathlib.Core.List.{List, [], ◌∷◌, ◌++◌, append_assoc}
use Prim.Native.Nat.{ℕ, ◌+◌, ◌%◌, ◌≤◌}
use native.Mathlib.Omega.{arith}
use lib.ListN.{length, take, drop, length-append, length-drop, take-append-drop}
use lib.Seq.{length-take-le, drop-append-le, drop_at, drop-drop}
use borrow.Rule.Slice.PartMut.{put_mid}
use Rattle.words.specs.Bytes.{bytes_of, laid, over}
use Rattle.words.proofs.Laid.{bytes-length, laid-behind, low-laid}
use Rattle.writer.specs.Refusals.{WriteAnswer}
use Rattle.writer.specs.ToWrite.{script_for}
use Rattle.writer.specs.Refusals.{write_number, write_place, written_bytes, write_refuses, buffer_by, Wrote}
use Rattle.assemble.specs.Asked.{asked_in, answer_to, answer_in, program_bytes, AtStart}
use Rattle.assemble.proofs.AskedAnswers.{counted}

-- what is written over the first bytes of some is written over all of them
over-part : (xs l : List ℕ) (k : ℕ) → length xs ≤ k → k ≤ length l → over xs (take k l) ++ drop k l ≡ over xs l
unfolding over
over-part xs l k h j =
    append_assoc xs (drop (length xs) (take k l)) (drop k l) ∙
    ap (λ (r : List ℕ). xs ++ r)
    (sym (drop-append-le (length xs) (take k l) (drop k l) (omega (arith, length-take-le k l j))) ∙
    ap (drop (length xs)) (take-append-drop k l))

-- a buffer that is left as it was has nothing written over it
left_over : (t : Bool) (s lent : List ℕ) → buffer_by t s lent ≡ over (cond t [] s) lent
unfolding over
left_over true s lent = refl
left_over false s lent = refl

-- two words over what has others behind them
words-over : (n p : ℕ) (body out : List ℕ) → 8 ≤ length out →
    laid (take 8 out ++ over body (drop 8 out)) 0 (n ∷ p ∷ []) ≡ over (bytes_of (n ∷ p ∷ []) ++ body) out
unfolding laid over
words-over n p body out h =
    let ws = bytes_of (n ∷ p ∷ []) in
    let e : 8 + length body ≡ length (ws ++ body) = omega (arith, length-append ws body, bytes-length (n ∷ p ∷ [])) in
    let d = drop_at (take 8 out) (body ++ drop (length body) (drop 8 out)) 8 (length-take-le 8 out h) in
    rw (d, drop-drop (length body) 8 out, e)
    (sym (append_assoc ws body (drop (length (ws ++ body)) out)))

module _ (b out : List ℕ) (h : 65544 ≤ length out) {a : WriteAnswer} {left : List ℕ}
    (w : Wrote (answer_in b (take 65536 (drop 8 out))) a left) where
  abbrev body : List ℕ
  body = cond (write_refuses (answer_to b)) [] (script_for (asked_in b))

  said : a ≡ answer_to b
  unfolding answer_in
  said = w.answer

  lay : left ++ drop 65536 (drop 8 out) ≡ over body (drop 8 out)
  unfolding answer_in
  lay =
      ap (λ (l : List ℕ). l ++ drop 65536 (drop 8 out))
      (w.memory ∙ left_over (write_refuses (answer_to b)) (script_for (asked_in b)) (take 65536 (drop 8 out))) ∙
      over-part body (drop 8 out) 65536 (counted b).1 (omega (arith, h, length-drop 8 out))

  pub put : {one two : List ℕ} {n p : ℕ} → n ≡ write_number a → p ≡ write_place a →
      one ≡ laid (put_mid 8 65536 out left) 0 (n ∷ []) → two ≡ laid one 1 (p % 4294967296 ∷ []) →
      two ≡ over (program_bytes b) out
  unfolding program_bytes
  put {one} {two} {n} {p} en ep e1 e2 =
      let rest = over body (drop 8 out) in
      let ws = write_number (answer_to b) ∷ write_place (answer_to b) ∷ [] in
      let m : put_mid 8 65536 out left ≡ take 8 out ++ rest = ap (λ (l : List ℕ). take 8 out ++ l) lay in
      let r : 4 ≤ length (take 8 out ++ rest) =
      omega (arith, length-append (take 8 out) rest, length-take-le 8 out (omega (arith, h))) in
      let f : n ∷ p ∷ [] ≡ ws = cc (ap write_number said, ap write_place said) in
      e2 ∙ low-laid one 1 p ∙ ap (λ (l : List ℕ). laid l 1 (p ∷ [])) (e1 ∙ ap (λ (l : List ℕ). laid l 0 (n ∷ [])) m) ∙
      laid-behind (take 8 out ++ rest) 0 (n ∷ []) (omega (arith, r)) (p ∷ []) 1 (omega arith) ∙
      ap (laid (take 8 out ++ rest) 0) f ∙
      words-over (write_number (answer_to b)) (write_place (answer_to b)) body out (omega (arith, h))

  pub count : 8 + written_bytes a ≡ length (program_bytes b)
  unfolding program_bytes
  count =
      let ws = write_number (answer_to b) ∷ write_place (answer_to b) ∷ [] in
      omega (arith, ap written_bytes said, (counted b).0, length-append (bytes_of ws) body, bytes-length ws)

  pub few-written : written_bytes a ≤ 65536
  few-written = omega (arith, ap written_bytes said, (counted b).0, (counted b).1)

-- what is put at the start of bytes counts no more than there are
pub within : {written bytes left : List ℕ} {n : ℕ} → AtStart written bytes n left → n ≤ length left
unfolding over
within {written} {bytes} s =
    omega (arith, s.number, ap length s.memory, length-append written (drop (length written) bytes))
