-- Laws of the record words: what stands where more are written behind some, what a flush and a
-- close write, and how many words a stroke has. Assumes nothing.
use mathlib.Core.Path.{◌≡◌, refl, sym, ◌∙◌}
use mathlib.Core.Bool.{Bool, true, false, cond}
use mathlib.Core.List.{List, ◌++◌, ◌∷◌, [], append_assoc}
use Prim.Native.Nat.{ℕ, ◌+◌, ◌-◌, ◌≤◌, ◌<◌}
use native.Mathlib.Omega.{arith}
use lib.IntN.{ℤ, pos}
use lib.ListN.{length, take, drop, set, length-append}
use lib.Seq.{drop-cons, drop-drop, set-append_seam, take-append_seam, drop-append_seam}
use borrow.Rule.Slice.PartMut.{put_mid}
use Rattle.std.proofs.Common.{Option, Some, None}
use Rattle.pen.specs.declared.strokes.Point.{Point}
use Rattle.pen.specs.declared.strokes.WaitingLine.{WaitingLine}
use Rattle.pen.specs.declared.strokes.Pen.{Pen}
use Rattle.pen.specs.Records.{written}
use Rattle.pen.specs.Strokes.{same_point, point_words, close_by, waiting_words, closing_words, flush_words, move_of}
use Rattle.pen.specs.Strokes.{line_of, curve_of, finish_of}
use Rattle.pen.proofs.Lent.{lent, back}

-- ---- words that are written
-- some words, and more behind them
pub written_both : (ws vs out : List ℤ) → written (ws ++ vs) out ≡ ws ++ written vs (drop (length ws) out)
unfolding written
written_both ws vs out = rw (append_assoc, length-append, drop-drop)

module _ (ws out : List ℤ) where
  -- more words in what is lent behind some
  written_behind : (vs : List ℤ) →
      take (length ws) (written ws out) ++ written vs (drop (length ws) (written ws out)) ≡ written (ws ++ vs) out
  unfolding written
  written_behind vs = rw (take-append_seam, drop-append_seam) (sym (written_both ws vs out))

  -- one word more
  written_one : (w : ℤ) → length ws < length out → set (written ws out) (length ws) w ≡ written (ws ++ w ∷ []) out
  unfolding written
  written_one w h = rw (written_both ws (w ∷ []) out, drop-cons out (length ws) (pos 0) h) (set-append_seam ws _ _ w)

-- words that are lent what stands behind others
pub behind : (ws vs out : List ℤ) {k : ℕ} {mid left : List ℤ} → k ≡ length ws → mid ≡ written ws out →
    left ≡ written vs (take (length mid - k) (drop k mid)) → put_mid k (length mid - k) mid left ≡ written (ws ++ vs)
    out
behind ws vs out {k} {mid} {left} e m w =
    let b : take k mid ++ left ≡ written (ws ++ vs) out = rw (w, lent mid k, m, e) (written_behind ws out vs) in
    back k mid left ∙ b

-- and one word there
pub one-behind : (ws out : List ℤ) (w : ℤ) {k : ℕ} {mid : List ℤ} → k ≡ length ws → mid ≡ written ws out →
    k < length out → set mid k w ≡ written (ws ++ w ∷ []) out
one-behind ws out w e m h = rw (m, e) (written_one ws out w (omega arith))

-- no words
pub written_none : (ws out : List ℤ) → length ws ≡ 0 → written ws out ≡ out
unfolding written
written_none [] out e = refl
written_none (w ∷ ws) out e = absurd (omega arith)

-- ---- the words of a flush and of a close
waiting-short : (w : Option WaitingLine) → length (waiting_words w) ≤ 3
waiting-short None = omega arith
waiting-short (Some line) = omega arith

close-short : (s : Option Point) (w : Option WaitingLine) → length (close_by s w) ≤ 4
close-short None w = omega arith
close-short (Some from) None = omega arith
close-short (Some from) (Some line) = pick (same_point line.at from)
  where
    pick : (b : Bool) → length (cond b (pos 4 ∷ []) (pos 2 ∷ point_words line.device ++ pos 4 ∷ [])) ≤ 4
    pick true = omega arith
    pick false = omega arith

close-lone : (s : Option Point) (w : Option WaitingLine) → length (close_by s w) ≡ 1 → close_by s w ≡ pos 4 ∷ []
close-lone None w e = absurd (omega arith)
close-lone (Some from) None e = refl
close-lone (Some from) (Some line) e = pick (same_point line.at from) e
  where
    pick : (b : Bool) → length (cond b (pos 4 ∷ []) (pos 2 ∷ point_words line.device ++ pos 4 ∷ [])) ≡ 1 →
        cond b (pos 4 ∷ []) (pos 2 ∷ point_words line.device ++ pos 4 ∷ []) ≡ pos 4 ∷ []
    pick true e = refl
    pick false e = absurd (omega arith)

close-line : (s : Option Point) (w : Option WaitingLine) → 1 < length (close_by s w) →
    (length (waiting_words w) ≡ 3) × (close_by s w ≡ waiting_words w ++ pos 4 ∷ [])
close-line None w h = absurd (omega arith)
close-line (Some from) None h = absurd (omega arith)
close-line (Some from) (Some line) h = pick (same_point line.at from) h
  where
    pick : (b : Bool) → 1 < length (cond b (pos 4 ∷ []) (pos 2 ∷ point_words line.device ++ pos 4 ∷ [])) →
        (length (waiting_words (Some line)) ≡ 3) × (cond b (pos 4 ∷ []) (pos 2 ∷ point_words line.device ++ pos 4 ∷ [])
        ≡
        waiting_words (Some line) ++ pos 4 ∷ [])
    pick true h = absurd (omega arith)
    pick false h = (refl, refl)

module _ (pen : Pen) where
  -- a flush writes at most 3 words
  pub flushing-short : length (flush_words pen) ≤ 3
  unfolding flush_words
  flushing-short = waiting-short pen.waiting

  -- a close writes at most 4 words
  pub closing-short : length (closing_words pen) ≤ 4
  unfolding closing_words
  closing-short = close-short pen.start pen.waiting

  -- one word is a close alone
  pub closing-lone : length (closing_words pen) ≡ 1 → closing_words pen ≡ pos 4 ∷ []
  unfolding closing_words
  closing-lone = close-lone pen.start pen.waiting

  -- more are a line and a close
  pub closing-line : 1 < length (closing_words pen) →
      (length (flush_words pen) ≡ 3) × (closing_words pen ≡ flush_words pen ++ pos 4 ∷ [])
  unfolding closing_words flush_words
  closing-line = close-line pen.start pen.waiting

  -- how many words a move has, of which there are at most 10
  pub move-length : (at device : Point) → length (move_of pen at device).words ≡ length (closing_words pen) + 3
  unfolding move_of
  move-length at device = rw length-append

  pub move-short : (at device : Point) → length (move_of pen at device).words ≤ 10
  move-short at device = omega (arith, move-length at device, closing-short)

  -- a line
  pub line-length : (at device : Point) → length (line_of pen at device).words ≡ length (flush_words pen)
  unfolding line_of
  line-length at device = refl

  pub line-short : (at device : Point) → length (line_of pen at device).words ≤ 10
  line-short at device = omega (arith, line-length at device, flushing-short)

  -- a curve
  pub curve-length : (first second end : Point) →
      length (curve_of pen first second end).words ≡ length (flush_words pen) + 7
  unfolding curve_of
  curve-length first second end = rw length-append

  pub curve-short : (first second end : Point) → length (curve_of pen first second end).words ≤ 10
  curve-short first second end = omega (arith, curve-length first second end, flushing-short)

  -- and a finish
  pub finish-length : length (finish_of pen).words ≡ length (closing_words pen) + 1
  unfolding finish_of
  finish-length = rw length-append

  pub finish-short : length (finish_of pen).words ≤ 10
  finish-short = omega (arith, finish-length, closing-short)
