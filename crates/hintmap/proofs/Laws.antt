-- A list whose elements from a place on have gone up by some places, as `HintMap::put` makes it.
-- Assumes nothing.
use mathlib.Core.Path.{◌≡◌, sym, ap, ◌∙◌}
use mathlib.Core.List.{List, [], ◌++◌, append_assoc}
use Prim.Native.Nat.{ℕ, zero, suc, ◌+◌, ◌≤◌, ◌<◌, ◌-◌}
use native.Mathlib.Omega.{arith}
use lib.ListN.{length, take, drop, get_or, set, length-take, length-drop, length-append, take-append-drop}
use lib.ListN.{get_or-append}
use lib.Seq.{drop-cons, take-suc, get_or-take, set_at, take-take, length-take-le, drop-length, take_at, drop_at}
use lib.Seq.{sets, sets-eq, take-append-le}

module _ {A : Type 0} where
  -- the list es of which the elements from k up to n have gone up by g, with those from k on still
  -- in their places too
  pub shifted : List A → ℕ → ℕ → ℕ → List A
  shifted es n g k = take (k + g) es ++ (drop k (take n es) ++ drop (n + g) es)

  pub shifted_none : (es : List A) (n g : ℕ) → n + g ≤ length es → shifted es n g n ≡ es
  unfolding shifted
  shifted_none es n g h =
      let e : drop n (take n es) ≡
      [] = (let l : length (take n es) ≡ n = length-take-le n es (omega arith) in
      ap (λ (k : ℕ). drop k (take n es)) (sym l) ∙ drop-length (take n es)) in
      rw (e, take-append-drop)

  shifted_at : (es : List A) (n g k : ℕ) (d : A) → k < n → n + g ≤ length es →
      get_or (shifted es n g (suc k)) k d ≡ get_or es k d
  unfolding shifted
  shifted_at es n g k d hk hn =
      let l : k < length (take (suc k + g) es) = simp length-take (omega arith) in
      let h : k < suc k + g = omega arith in
      rw (get_or-append, get_or-take)

  -- one more goes up
  shifted_step : (es : List A) (n g k : ℕ) (d : A) → k < n → n + g ≤ length es →
      set (shifted es n g (suc k)) (k + g) (get_or (shifted es n g (suc k)) k d) ≡ shifted es n g k
  unfolding shifted
  shifted_step es n g k d hk hn =
      let e : suc k + g ≡ suc (k + g) = omega arith in
      let h : k + g < length es = omega arith in
      let h' : k < length (take n es) = simp length-take (omega arith) in
      let l : length (take (k + g) es) ≡ k + g = length-take-le (k + g) es (omega arith) in
      rw (
        shifted_at es n g k d hk hn,
        e,
        take-suc es (k + g) d h,
        append_assoc,
        set_at (take (k + g) es) _ _ (get_or es k d) (k + g) l,
        drop-cons (take n es) k d h',
        get_or-take n es k d hk,
      )

  -- the same as the code has it, at k - 1
  pub shifted-step-at : (es : List A) (n g k : ℕ) (d : A) → 0 < k → k ≤ n → n + g ≤ length es →
      set (shifted es n g k) (k - 1 + g) (get_or (shifted es n g k) (k - 1) d) ≡ shifted es n g (k - 1)
  shifted-step-at es n g (suc k) d hp hk hn =
      let e : suc k - 1 ≡ k = omega arith in
      rw e (shifted_step es n g k d (omega arith) hn)
  shifted-step-at es n g zero d hp hk hn = absurd (omega arith)

  -- the elements in the gap give way to what is put in
  pub gap-filled : (es : List A) (n k g : ℕ) (new : List A) → k ≤ n → n + g ≤ length es → g ≡ length new →
      take (n + g) (sets (shifted es n g k) k new) ≡ take k (take n es) ++ (new ++ drop k (take n es))
  unfolding shifted
  gap-filled es n k g new hk hn q =
      let gone = drop k (take n es) in
      let l : length (take (k + g) es) ≡ k + g = length-take-le (k + g) es (omega arith) in
      let h : k + length new ≤ length (take (k + g) es ++ (gone ++ drop (n + g) es)) = simp length-append
      (omega arith) in
      let h' : k ≤ length (take (k + g) es) = omega arith in
      let m : k ≤ k + g = omega arith in
      rw (
        sets-eq new (take (k + g) es ++ (gone ++ drop (n + g) es)) k h,
        ← q,
        drop_at (take (k + g) es) (gone ++ drop (n + g) es) (k + g) l,
        take-append-le k (take (k + g) es) (gone ++ drop (n + g) es) h',
        take-take k (k + g) es m,
        take-take k n es hk,
        ← append_assoc (take k es) new gone,
        ← append_assoc (take k es ++ new) gone (drop (n + g) es),
      )
      (take_at _ _ (n + g) (simp (length-append, length-take, length-drop) (omega arith)))
