-- Each turn stores a byte more; the mask is made of those that were stored. Assumes nothing.
use Rattle.std.proofs.Common.{◌≡◌, ℕ, zero, suc, ◌+◌, ◌-◌, ◌<◌, List, [], ◌∷◌, ◌++◌, length, take, set, replicate}
use Rattle.std.proofs.Common.{ℤ, sym, refl, ap, ◌∙◌, append_assoc, add-one, arith, take_at, rules}
use lib.Seq.{set_at}
use Rattle.stems.specs.Mask.{mask_of}
use Rattle.test_tables.specs.Given.{count_in, bytes_in, mask_in}
use Rattle.test_tables.proofs.given.mask.Goals as goal

bytes-length : (row : List ℤ) (at n : ℕ) → length (bytes_in row at n) ≡ n
unfolding bytes_in
bytes-length row at zero = refl
bytes-length row at (suc n) = ap suc (bytes-length row (at + 1) n)

-- the last byte of one more
bytes-more : (row : List ℤ) (at n : ℕ) → bytes_in row at (suc n) ≡ bytes_in row at n ++ count_in row (at + n) 255 ∷ []
unfolding bytes_in
bytes-more row at zero =
    let e : at ≡ at + zero = omega arith in
    ap (λ (k : ℕ). count_in row k 255 ∷ []) e
bytes-more row at (suc n) =
    let e : at + 1 + n ≡ at + suc n = omega arith in
    ap (λ (l : List ℕ). count_in row at 255 ∷ l)
    (bytes-more row (at + 1) n ∙ ap (λ (k : ℕ). bytes_in row (at + 1) n ++ count_in row k 255 ∷ []) e)

-- one byte more is stored, and the rest stay zeros
stored : (row : List ℤ) (at n : ℕ) → n < 13 →
    set (bytes_in row at n ++ replicate (13 - n) 0) n (count_in row (at + n) 255) ≡
    bytes_in row at (n + 1) ++ replicate (13 - (n + 1)) 0
stored row at n h =
    let left : 13 - n ≡ suc (13 - (n + 1)) = omega arith in
    rw left (set_at (bytes_in row at n) 0 _ (count_in row (at + n) 255) n (bytes-length row at n) ∙
    sym (rw (add-one n, bytes-more row at n, append_assoc)))

pub loop-i-init : goal.loop-i-init
unfolding bytes_in
loop-i-init c = (refl, (search rules, refl))

pub loop-i-preserved : goal.loop-i-preserved
loop-i-preserved c =
    let row = c.args.row.now in
    let at = c.args.at + 1 in
    let i = c.loop-i.i in
    let next = ap (λ (b : List ℕ). set b i c.count.result) c.loop-i.invariant.0 ∙
    ap (set (bytes_in row at i ++ replicate (13 - i) 0) i) c.count.ensures in
    (next ∙ stored row at i (search rules), (search rules, search rules))

pub returns : goal.returns
unfolding mask_in
returns c =
    let row = c.args.row.now in
    let at = c.args.at + 1 in
    let i = c.loop-i.i in
    let all : c.count-n.result - 0 ≡ i = omega arith in
    let end : i ≡ c.count-n.result = omega arith in
    let taken = ap (take i) c.loop-i.invariant.0 ∙ take_at (bytes_in row at i) _ i (bytes-length row at i) in
    c.new.ensures ∙ ap mask_of
    (ap (λ (k : ℕ). take k c.loop-i.bytes) all ∙ taken ∙ ap (bytes_in row at) (end ∙ c.count-n.ensures))
