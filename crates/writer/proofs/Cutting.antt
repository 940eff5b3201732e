-- Laws of pieces: words cut into pieces and joined are the words again, and pieces that are whole
-- come out of their words again. Assumes nothing.
use mathlib.Core.Path.{◌≡◌, refl, sym, ap, ◌∙◌}
use mathlib.Core.Bool.{Bool, true, false, cond, ◌||◌}
use mathlib.Core.List.{List, [], ◌∷◌, ◌++◌, map}
use Prim.Native.Nat.{ℕ, zero, suc, min, ◌+◌, ◌-◌, ◌≤◌, ◌<◌}
use native.Mathlib.Numerals.{add-one}
use native.Mathlib.Omega.{arith}
use lib.IntN.{ℤ, pos}
use lib.Dec.{eqb, ltb}
use lib.ListN.{length, take, drop, get_or, length-append, length-take, length-drop, take-append-drop}
use lib.ListN.{drop_of_length-le, get_or-map}
use lib.Seq.{take-nil, take_at, drop_at, drop-cons, drop-drop, get_or-take, get_or-drop}
use mir.Val.{bool_byte}
use borrow.Author.Tests.{eqb-true, lt-ltb, le-ltb, ltb-true, ltb-false}
use Rattle.fixed.specs.Integers.{low_bits, bits_of}
use Rattle.commands.specs.Commands.{operands_of}
use Rattle.writer.specs.Pieces.{Piece, pieces_by, pieces_of, piece_words, joined, Whole, is_mask, given_operands}
use Rattle.writer.specs.Pieces.{piece_at, bytes_taken, masks_in, started, starts_from}

module _ (many : ℕ → ℕ) where
  -- where f pieces are enough, more change nothing
  enough : (f g : ℕ) (ws : List ℕ) → length ws ≤ f → length ws ≤ g → pieces_by f many ws ≡ pieces_by g many ws
  unfolding pieces_by
  enough zero zero ws h k = refl
  enough zero (suc g) [] h k = refl
  enough zero (suc g) (w ∷ ws) h k = absurd (omega arith)
  enough (suc f) zero [] h k = refl
  enough (suc f) zero (w ∷ ws) h k = absurd (omega arith)
  enough (suc f) (suc g) [] h k = refl
  enough (suc f) (suc g) (w ∷ ws) h k =
      ap (λ (l : List Piece). record { kind = w; operands = take (many w) ws } ∷ l)
      (enough f g (drop (many w) ws) (omega (arith, length-drop (many w) ws)) (omega (arith, length-drop (many w) ws)))

  pub no_pieces : pieces_of many [] ≡ []
  unfolding pieces_of pieces_by
  no_pieces = refl

  pub first_piece : (k : ℕ) (ws : List ℕ) →
      pieces_of many (k ∷ ws) ≡ record { kind = k; operands = take (many k) ws } ∷ pieces_of many (drop (many k) ws)
  unfolding pieces_of pieces_by
  first_piece k ws =
      ap (λ (l : List Piece). record { kind = k; operands = take (many k) ws } ∷ l)
      (enough (length ws) (length (drop (many k) ws)) (drop (many k) ws) (omega (arith, length-drop (many k) ws))
      (omega arith))

  -- words cut into pieces and joined again
  joined_by : (f : ℕ) (ws : List ℕ) → length ws ≤ f → joined (pieces_by f many ws) ≡ ws
  unfolding joined pieces_by
  joined_by zero [] h = refl
  joined_by zero (w ∷ ws) h = absurd (omega arith)
  joined_by (suc f) [] h = refl
  joined_by (suc f) (w ∷ ws) h =
      ap (λ (l : List ℕ). w ∷ l)
      (ap (λ (l : List ℕ). take (many w) ws ++ l)
      (joined_by f (drop (many w) ws) (omega (arith, length-drop (many w) ws))) ∙
      take-append-drop (many w) ws)

  pub joined-pieces : (ws : List ℕ) → joined (pieces_of many ws) ≡ ws
  unfolding pieces_of
  joined-pieces ws = joined_by (length ws) ws (omega arith)

  -- whole pieces joined and cut again
  pub pieces-joined : (ps : List Piece) → Whole many ps → pieces_of many (joined ps) ≡ ps
  unfolding joined
  pieces-joined [] h = no_pieces
  pieces-joined (p ∷ ps) h =
      let o = p.operands in
      let r = joined ps in
      first_piece p.kind (o ++ r) ∙
      ap (λ (l : List ℕ). record { kind = p.kind; operands = l } ∷ pieces_of many (drop (many p.kind) (o ++ r)))
      (take_at o r (many p.kind) h.0) ∙
      ap (λ (l : List ℕ). p ∷ pieces_of many l) (drop_at o r (many p.kind) h.0) ∙
      ap (λ (l : List Piece). p ∷ l) (pieces-joined ps h.1)

-- the rest of a list from a place on
pub rest_at : (ws : List ℕ) (i : ℕ) → i < length ws → drop i ws ≡ get_or ws i 0 ∷ drop (i + 1) ws
rest_at ws i h = rw (add-one) (drop-cons ws i 0 h)

-- the given pieces from a word on
pub piece-at : (ws : List ℕ) (i : ℕ) → i < length ws →
    pieces_of given_operands (drop i ws) ≡
    piece_at ws i ∷ pieces_of given_operands (drop (i + 1 + given_operands (get_or ws i 0)) ws)
piece-at ws i h =
    let n = given_operands (get_or ws i 0) in
    let e : n + (i + 1) ≡ i + 1 + n = omega arith in
    ap (pieces_of given_operands) (rest_at ws i h) ∙ first_piece given_operands (get_or ws i 0) (drop (i + 1) ws) ∙
    ap (λ (l : List ℕ). piece_at ws i ∷ pieces_of given_operands l) (drop-drop n (i + 1) ws)

-- every mask has one word more with its start
pub started-length : (n : ℕ) (ps : List Piece) → length (joined (starts_from n ps)) ≡ length (joined ps) + masks_in ps
unfolding joined starts_from masks_in
started-length n [] = refl
started-length n (p ∷ ps) = by (is_mask p.kind) refl (started-length (n + bytes_taken p) ps)
  where
    rest : List ℕ
    rest = joined (starts_from (n + bytes_taken p) ps)

    by : (b : Bool) → is_mask p.kind ≡ b → length rest ≡ length (joined ps) + masks_in ps →
        length (p.kind ∷ (cond b (n ∷ p.operands) p.operands ++ rest)) ≡
        length (p.kind ∷ (p.operands ++ joined ps)) + (cond b 1 0 + masks_in ps)
    by true e h = omega (arith, length-append p.operands rest, length-append p.operands (joined ps))
    by false e h = omega (arith, length-append p.operands rest, length-append p.operands (joined ps))

-- a given word's bits
pub bits_at : (cs : List ℤ) (i : ℕ) → get_or (map bits_of cs) i 0 ≡ bits_of (get_or cs i (pos 0))
unfolding low_bits
bits_at cs i = get_or-map bits_of cs i (pos 0)

-- a piece is cut off where its operands would end behind the words
pub cut_at : (ws : List ℕ) (i n : ℕ) → i < length ws →
    ltb (length (take n (drop (i + 1) ws))) n ≡ ltb (length ws) (i + 1 + n)
cut_at ws i n h = by (ltb (length ws) (i + 1 + n)) refl
  where
    there : length (take n (drop (i + 1) ws)) ≡ min n (length ws - (i + 1))
    there = length-take n (drop (i + 1) ws) ∙ ap (min n) (length-drop (i + 1) ws)

    by : (b : Bool) → ltb (length ws) (i + 1 + n) ≡ b → ltb (length (take n (drop (i + 1) ws))) n ≡ b
    by true e = lt-ltb _ n (omega (arith, there, ltb-true (length ws) (i + 1 + n) e))
    by false e = le-ltb _ n (omega (arith, there, ltb-false (length ws) (i + 1 + n) e))

-- the first operand of a piece that has one
operand_at : (ws : List ℕ) (i n : ℕ) → 0 < n → get_or (take n (drop (i + 1) ws)) 0 0 ≡ get_or ws (i + 1) 0
operand_at ws i n h =
    let e : i + 1 + 0 ≡ i + 1 = omega arith in
    get_or-take n (drop (i + 1) ws) 0 0 h ∙ get_or-drop (i + 1) ws 0 0 ∙ ap (λ (k : ℕ). get_or ws k 0) e

-- a mask takes as many bytes as the word behind its kind says, and what is no mask takes none
pub mask-takes : (ws : List ℕ) (i : ℕ) → is_mask (get_or ws i 0) ≡ true → bytes_taken (piece_at ws i) ≡ get_or ws
    (i + 1) 0
unfolding given_operands
mask-takes ws i e = rw e (operand_at ws i 1 (omega arith))

pub others-take : (ws : List ℕ) (i : ℕ) → is_mask (get_or ws i 0) ≡ false → bytes_taken (piece_at ws i) ≡ 0
others-take ws i e = rw e

pub at_most_one : (b : Bool) → bool_byte b ≤ 1
at_most_one true = omega arith
at_most_one false = omega arith

-- the masks from a word on
pub masks-at : (ws : List ℕ) (i : ℕ) → i < length ws →
    masks_in (pieces_of given_operands (drop i ws)) ≡
    bool_byte (is_mask (get_or ws i 0)) + masks_in (pieces_of given_operands
    (drop (i + 1 + given_operands (get_or ws i 0)) ws))
unfolding masks_in
masks-at ws i h = ap masks_in (piece-at ws i h) ∙ by (is_mask (get_or ws i 0))
  where
    rest : ℕ
    rest = masks_in (pieces_of given_operands (drop (i + 1 + given_operands (get_or ws i 0)) ws))

    by : (b : Bool) → cond b 1 0 + rest ≡ bool_byte b + rest
    by true = refl
    by false = refl

-- and none behind the last
pub masks-none : (ws : List ℕ) (i : ℕ) → length ws ≤ i → masks_in (pieces_of given_operands (drop i ws)) ≡ 0
unfolding masks_in
masks-none ws i h =
    ap (λ (l : List ℕ). masks_in (pieces_of given_operands l)) (drop_of_length-le ws h) ∙
    ap masks_in (no_pieces given_operands)

-- ---- a piece as it is stored
-- a mask is its kind, its start and its length
pub mask-stored : (ws : List ℕ) (i n : ℕ) → is_mask (get_or ws i 0) ≡ true → i + 1 < length ws →
    piece_words (started n (piece_at ws i)) ≡ get_or ws i 0 ∷ n ∷ get_or ws (i + 1) 0 ∷ []
unfolding given_operands
mask-stored ws i n e h = rw e (ap (λ (l : List ℕ). get_or ws i 0 ∷ n ∷ take 1 l) (rest_at ws (i + 1) h))

-- every other piece is its own words
pub other-stored : (ws : List ℕ) (i n : ℕ) → is_mask (get_or ws i 0) ≡ false → i < length ws →
    piece_words (started n (piece_at ws i)) ≡ take (1 + operands_of (get_or ws i 0)) (drop i ws)
unfolding given_operands
other-stored ws i n e h =
    let o = operands_of (get_or ws i 0) in
    let s : 1 + o ≡ suc o = omega arith in
    rw e (sym (ap (take (1 + o)) (rest_at ws i h) ∙ ap (λ (k : ℕ). take k (get_or ws i 0 ∷ drop (i + 1) ws)) s))

-- words given and bits taken, in either order
pub bits-part : (cs : List ℤ) (i n : ℕ) → map bits_of (take n (drop i cs)) ≡ take n (drop i (map bits_of cs))
bits-part cs zero zero = refl
bits-part [] zero (suc n) = refl
bits-part (c ∷ cs) zero (suc n) = ap (λ (l : List ℕ). bits_of c ∷ l) (bits-part cs zero n)
bits-part [] (suc i) n = ap (map bits_of) (take-nil {A = ℤ} n) ∙ sym (take-nil {A = ℕ} n)
bits-part (c ∷ cs) (suc i) n = bits-part cs i n

-- a mask has one operand as it is given, and every other kind has its own
pub mask-operands : (k : ℕ) → is_mask k ≡ true → given_operands k ≡ 1
unfolding given_operands
mask-operands k e = rw e

pub other-operands : (k : ℕ) → is_mask k ≡ false → given_operands k ≡ operands_of k
unfolding given_operands
other-operands k e = rw e

-- in a script a mask has two, its start and its length
pub mask-two : (k : ℕ) → is_mask k ≡ true → operands_of k ≡ 2
unfolding operands_of
mask-two k e = by (eqb k 2) refl e
  where
    by : (b : Bool) → eqb k 2 ≡ b → (b || eqb k 3) ≡ true → operands_of k ≡ 2
    by true f q = ap operands_of (eqb-true k 2 f)
    by false f q = ap operands_of (eqb-true k 3 q)

-- so it is given with fewer, and no kind with more
pub given-fewer : (k : ℕ) → given_operands k ≤ operands_of k
given-fewer k = by (is_mask k) refl
  where
    by : (b : Bool) → is_mask k ≡ b → given_operands k ≤ operands_of k
    by true e = omega (arith, mask-operands k e, mask-two k e)
    by false e = omega (arith, other-operands k e)

-- a piece that is whole as given is whole with its start
pub started-whole : (n : ℕ) (p : Piece) → length p.operands ≡ given_operands p.kind →
    length (started n p).operands ≡ operands_of p.kind
unfolding given_operands
started-whole n p e = by (is_mask p.kind) refl e
  where
    by : (b : Bool) → is_mask p.kind ≡ b → length p.operands ≡ cond b 1 (operands_of p.kind) →
        length (cond b (n ∷ p.operands) p.operands) ≡ operands_of p.kind
    by true f e = omega (arith, mask-two p.kind f)
    by false f e = e
