-- Laws of texts put at a place: none, one behind another; and no byte is lost. Assumes nothing.
use Rattle.std.proofs.Common.{◌≡◌, ℕ, ◌+◌, ◌≤◌, List, [], ◌++◌, length, drop, sym, ap, ◌∙◌, arith, length-append}
use Rattle.words.specs.Bytes.{over}
use Rattle.words.proofs.Placing.{placed-start, placed-none, placed-length, placed-behind}
use Rattle.decimal.specs.Decimal.{Put, PutInRoom}

module _ (b : List ℕ) (at : ℕ) where
  pub put-none : Put [] at b at b
  put-none = record { ends = omega arith; memory = sym (placed-none b at) }

  -- the same by other names
  pub put_same : {xs ys : List ℕ} {end end' : ℕ} {left left' : List ℕ} → ys ≡ xs → end' ≡ end → left' ≡ left →
      Put xs at b end left → Put ys at b end' left'
  put_same e f g p = rw (e, f, g) p

  module _ (xs : List ℕ) (h : at + length xs ≤ length b) {end : ℕ} {left : List ℕ} (p : Put xs at b end left) where
    pub put-length : length left ≡ length b
    put-length = ap length p.memory ∙ placed-length b at xs h

    -- one text behind another
    pub put-behind : (ys : List ℕ) {end' : ℕ} {left' : List ℕ} → Put ys end left end' left' →
        Put (xs ++ ys) at b end' left'
    put-behind ys q = record {
      ends = omega (arith, length-append xs ys);
      memory = rw (q.memory, p.memory) (placed-behind b at xs h ys end p.ends);
    }

-- ---- the room of two texts is that of the first and, behind it, that of the second
pub room-first : (at n : ℕ) (xs ys : List ℕ) → at + length (xs ++ ys) ≤ n → at + length xs ≤ n
room-first at n xs ys h = omega (arith, h, length-append xs ys)

module _ (b : List ℕ) (at : ℕ) (xs ys : List ℕ) (h : at + length (xs ++ ys) ≤ length b) where
  pub room-rest : {end : ℕ} {left : List ℕ} → Put xs at b end left → end + length ys ≤ length left
  room-rest p = omega (arith, h, length-append xs ys, p.ends, put-length b at xs (room-first at (length b) xs ys h) p)

  pub put_both : {mid end : ℕ} {among left : List ℕ} → Put xs at b mid among → Put ys mid among end left →
      Put (xs ++ ys) at b end left
  put_both p q = put-behind b at xs (room-first at (length b) xs ys h) p ys q

-- so of two that are put where there is room
pub in-room-both : {xs ys b among left : List ℕ} {at mid end : ℕ} →
    PutInRoom xs at b mid among → PutInRoom ys mid among end left → PutInRoom (xs ++ ys) at b end left
in-room-both {xs} {ys} {b} {among} {left} {at} p q h =
    let f = p (room-first at (length b) xs ys h) in put_both b at xs ys h f (q (room-rest b at xs ys h f))

-- what is put at the start ends within what is left
pub put-within : {xs b left : List ℕ} {end : ℕ} → Put xs 0 b end left → end ≤ length left
unfolding over
put-within {xs} {b} p =
    omega (arith, p.ends, ap length (p.memory ∙ placed-start b xs), length-append xs (drop (length xs) b))
