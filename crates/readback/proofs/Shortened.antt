-- Laws of the pieces of a script from a word on, of their words without the starts of masks, and of
-- a walk along them. Assumes nothing.
use mathlib.Core.Path.{◌≡◌, refl, sym, ap, ◌∙◌}
use mathlib.Core.Bool.{Bool, true, false, cond}
use mathlib.Core.List.{List, [], ◌∷◌, ◌++◌, map, map-append}
use Prim.Native.Nat.{ℕ, ◌+◌, ◌-◌, ◌≤◌, ◌<◌}
use native.Mathlib.Omega.{arith}
use lib.IntN.{ℤ}
use lib.ListN.{length, take, drop, length-append, length-take, length-map}
use Rattle.fixed.specs.Integers.{signed}
use Rattle.words.specs.Words.{words_from}
use Rattle.words.specs.Bytes.{placed}
use Rattle.words.proofs.Words.{from-length, words-first, words-taken, words_left}
use Rattle.words.proofs.Placing.{placed-behind}
use Rattle.commands.specs.Commands.{operands_of}
use Rattle.writer.specs.Pieces.{Piece, pieces_of, piece_words, joined, Whole, is_mask, given_operands, unstarted}
use Rattle.writer.proofs.Cutting.{no_pieces, first_piece, mask-two, given-fewer}
use Rattle.readback.specs.ReadBack.{pieces_from, shortened, script_piece}

-- ---- the pieces of n words from a first one on, without those of the words before word `at`
abbrev pub pieces_left : (ℕ → ℕ) → ℕ → ℕ → ℕ → List Piece
pieces_left w first n at = pieces_from w (first + at) (n - at)

module _ (w : ℕ → ℕ) (first n : ℕ) where
  -- all of them
  pub all_left : pieces_left w first n 0 ≡ pieces_from w first n
  all_left =
      let e : first + 0 ≡ first = omega arith in
      let f : n - 0 ≡ n = omega arith in
      rw (e, f)

  module _ (at : ℕ) where
    -- none
    pub none_left : n ≤ at → pieces_left w first n at ≡ []
    unfolding words_from
    none_left h =
        let e : n - at ≡ 0 = omega arith in
        rw e (no_pieces operands_of)

    -- the first of them, and what is left behind its operands
    cut : at < n →
        pieces_left w first n at ≡
        record {
          kind = w (first + at);
          operands = take (operands_of (w (first + at))) (words_from w (first + at + 1) (n - at - 1));
        } ∷
        pieces_of operands_of (drop (operands_of (w (first + at))) (words_from w (first + at + 1) (n - at - 1)))
    cut h =
        ap (pieces_of operands_of) (words-first w (first + at) (n - at) (omega arith)) ∙
        first_piece operands_of (w (first + at)) (words_from w (first + at + 1) (n - at - 1))

    -- the same where its operands are there
    pub first-left : at + 1 + operands_of (w (first + at)) ≤ n →
        pieces_left w first n at ≡
        script_piece w (first + at) ∷ pieces_left w first n (at + 1 + operands_of (w (first + at)))
    first-left h =
        let k = operands_of (w (first + at)) in
        let e : first + at + 1 + k ≡ first + (at + 1 + k) = omega arith in
        let f : n - at - 1 - k ≡ n - (at + 1 + k) = omega arith in
        cut (omega arith) ∙
        rw (
          words-taken w (first + at + 1) k (n - at - 1) (omega arith),
          words_left w (first + at + 1) k (n - at - 1) (omega arith),
          e,
          f,
        )

    -- and they are there where no piece is cut off
    operands-left : at < n → Whole operands_of (pieces_left w first n at) → at + 1 + operands_of (w (first + at)) ≤ n
    operands-left h g =
        let k = operands_of (w (first + at)) in
        let ws = words_from w (first + at + 1) (n - at - 1) in
        let f = rw (cut h) at g in
        omega (arith, f.0, length-take k ws, from-length w (first + at + 1) (n - at - 1))

    -- nor is one of those behind the first
    whole-left : at < n → Whole operands_of (pieces_left w first n at) →
        Whole operands_of (pieces_left w first n (at + 1 + operands_of (w (first + at))))
    whole-left h g = (rw (first-left (operands-left h g)) at g).1

-- ---- a piece without its start
-- it is its kind and the last of its operands
pub unstarted-words : (w : ℕ → ℕ) (i : ℕ) →
    piece_words (unstarted (script_piece w i)) ≡
    w i ∷ words_from w (i + 1 + operands_of (w i) - given_operands (w i)) (given_operands (w i))
unfolding given_operands
unstarted-words w i = ap (λ (l : List ℕ). w i ∷ l) (by (is_mask (w i)) refl)
  where
    by : (b : Bool) → is_mask (w i) ≡ b →
        cond b (drop 1 (words_from w (i + 1) (operands_of (w i)))) (words_from w (i + 1) (operands_of (w i))) ≡
        words_from w (i + 1 + operands_of (w i) - cond b 1 (operands_of (w i))) (cond b 1 (operands_of (w i)))
    by true e =
        let m = mask-two (w i) e in
        let f : i + 1 + 1 ≡ i + 1 + operands_of (w i) - 1 = omega arith in
        let g : operands_of (w i) - 1 ≡ 1 = omega arith in
        words_left w (i + 1) 1 (operands_of (w i)) (omega arith) ∙
        ap (λ (k : ℕ). words_from w k (operands_of (w i) - 1)) f ∙
        ap (words_from w (i + 1 + operands_of (w i) - 1)) g
    by false e =
        let f : i + 1 ≡ i + 1 + operands_of (w i) - operands_of (w i) = omega arith in
        ap (λ (k : ℕ). words_from w k (operands_of (w i))) f

-- which are as many words as it is given with
unstarted-length : (w : ℕ → ℕ) (i : ℕ) →
    length (piece_words (unstarted (script_piece w i))) ≡ 1 + given_operands (w i)
unstarted-length w i =
    let k = given_operands (w i) in
    ap length (unstarted-words w i) ∙ omega (arith, from-length w (i + 1 + operands_of (w i) - k) k)

-- ---- the words of pieces without their starts: of none
no-shortened : shortened [] ≡ []
unfolding shortened joined
no-shortened = refl

pub nothing_left : (w : ℕ → ℕ) (first n at : ℕ) → n ≤ at → shortened (pieces_left w first n at) ≡ []
nothing_left w first n at h = ap shortened (none_left w first n at h) ∙ no-shortened

-- and of one and the others
first-shortened : (p : Piece) (ps : List Piece) → shortened (p ∷ ps) ≡ piece_words (unstarted p) ++ shortened ps
unfolding shortened joined
first-shortened p ps = refl

-- ---- a walk along the pieces of n words from a first one on, with some of their shortened words done
pub record Walk (w : ℕ → ℕ) (first n done at : ℕ) : Type 0 where
  pub whole : Whole operands_of (pieces_left w first n at)
  pub inside : at ≤ n
  pub fewer : done ≤ at
  pub counted : done + length (shortened (pieces_left w first n at)) ≡ length (shortened (pieces_from w first n))

module _ (w : ℕ → ℕ) (first n : ℕ) where
  -- it starts with none
  pub walk_start : Whole operands_of (pieces_from w first n) → Walk w first n 0 0
  walk_start h =
      let e = all_left w first n in
      record { whole = rw e h; inside = omega arith; fewer = omega arith; counted = rw e (omega arith) }

  module _ {done at : ℕ} (a : Walk w first n done at) where
    -- behind the last piece all are done
    pub walk_end : n ≤ at → done ≡ length (shortened (pieces_from w first n))
    walk_end h = omega (arith, a.counted, ap length (nothing_left w first n at h))

    module _ (h : at < n) where
      abbrev kind : ℕ
      kind = w (first + at)

      abbrev here : List ℕ
      here = piece_words (unstarted (script_piece w (first + at)))

      abbrev rest : List ℕ
      rest = shortened (pieces_left w first n (at + 1 + operands_of kind))

      -- a piece has its operands
      pub walk-there : at + 1 + operands_of kind ≤ n
      walk-there = operands-left w first n at h a.whole

      -- its words, then those of the rest
      split : shortened (pieces_left w first n at) ≡ here ++ rest
      split =
          ap shortened (first-left w first n at walk-there) ∙
          first-shortened (script_piece w (first + at)) (pieces_left w first n (at + 1 + operands_of kind))

      -- and how many they are
      pub walk-room : done + (1 + given_operands kind + length rest) ≡ length (shortened (pieces_from w first n))
      walk-room =
          omega (arith, a.counted, ap length split, length-append here rest, unstarted-length w (first + at))

      -- behind it the walk goes on
      pub walk-next : {k given many : ℕ} → k ≡ kind → given ≡ given_operands k → many ≡ operands_of k →
          Walk w first n (done + (1 + given)) (at + (1 + many))
      walk-next e f g =
          let k : done + (1 + given_operands kind) ≡ done + 1 + given_operands kind = omega arith in
          let m : at + (1 + operands_of kind) ≡ at + 1 + operands_of kind = omega arith in
          rw (f, g, e, k, m)
          (record {
            whole = whole-left w first n at h a.whole;
            inside = walk-there;
            fewer = omega (arith, a.fewer, given-fewer kind);
            counted = omega (arith, walk-room);
          })

      -- its words placed, and behind them those of the rest
      pub walk-placed : {k given many : ℕ} → k ≡ kind → given ≡ given_operands k → many ≡ operands_of k →
          (lent : List ℤ) → length (shortened (pieces_from w first n)) ≤ length lent →
          placed (placed lent done (map signed here)) (done + (1 + given))
          (map signed (shortened (pieces_left w first n (at + (1 + many))))) ≡
          placed lent done (map signed (shortened (pieces_left w first n at)))
      walk-placed e f g lent r =
          let m = length-map here signed in
          let l = unstarted-length w (first + at) in
          let k : done + (1 + given_operands kind) ≡ done + 1 + given_operands kind = omega arith in
          let t : at + (1 + operands_of kind) ≡ at + 1 + operands_of kind = omega arith in
          rw (f, g, e, k, t)
          (placed-behind lent done (map signed here) (omega (arith, walk-room)) (map signed rest)
          (done + 1 + given_operands kind) (omega arith) ∙
          ap (placed lent done) (sym (map-append signed here rest) ∙ ap (map signed) (sym split)))
