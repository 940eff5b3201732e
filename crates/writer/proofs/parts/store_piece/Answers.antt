-- `store_piece` lays a mask's kind, start and length, or the words of another piece as they stand.
-- Assumes nothing.
use Rattle.std.proofs.Common.{arith, ◌≡◌, sym, ap, ◌∙◌, true, false, ℕ, ◌+◌, ◌-◌, ◌*◌, ◌<◌, ◌≤◌, ℤ, List, [], ◌∷◌, map}
use Rattle.std.proofs.Common.{length}
use Rattle.std.proofs.Common.{take, drop, get_or}
use lib.ListN.{length-map}
use Rattle.fixed.specs.Integers.{bits_of}
use Rattle.words.specs.Bytes.{laid}
use Rattle.words.proofs.Laid.{laid-behind}
use Rattle.commands.specs.Commands.{operands_of}
use Rattle.writer.specs.Pieces.{is_mask, given_operands, piece_at, piece_words, started}
use Rattle.writer.proofs.Cutting.{mask-stored, other-stored, bits-part, mask-operands, other-operands}
use Rattle.writer.proofs.parts.store_piece.Goals as goal

-- a piece with its start, as words of a script
abbrev piece : List ℕ → ℕ → ℕ → List ℕ
piece ws at start = piece_words (started start (piece_at ws at))

-- a mask has a length, and three words in the script
mask-there : (ws : List ℕ) (at : ℕ) → is_mask (get_or ws at 0) ≡ true →
    at + 1 + given_operands (get_or ws at 0) ≤ length ws → at + 1 < length ws
mask-there ws at m h = omega (arith, h, mask-operands (get_or ws at 0) m)

mask-words : (ws : List ℕ) (at start : ℕ) → is_mask (get_or ws at 0) ≡ true →
    at + 1 + given_operands (get_or ws at 0) ≤ length ws →
    piece ws at start ≡ get_or ws at 0 ∷ start ∷ get_or ws (at + 1) 0 ∷ []
mask-words ws at start m h = mask-stored ws at start m (mask-there ws at m h)

-- three words laid one behind the other
three-laid : (b : List ℕ) (to x y z : ℕ) {b1 b2 b3 whole : List ℕ} → whole ≡ x ∷ y ∷ z ∷ [] →
    4 * (to + length whole) ≤ length b → b1 ≡ laid b to (x ∷ []) → b2 ≡ laid b1 (to + 1) (y ∷ []) →
    b3 ≡ laid b2 (to + 2) (z ∷ []) → b3 ≡ laid b to whole
three-laid b to x y z w r e1 e2 e3 =
    let room : 4 * (to + 3) ≤ length b = omega (arith, r, ap length w) in
    e3 ∙ ap (λ (l : List ℕ). laid l (to + 2) (z ∷ [])) (e2 ∙ ap (λ (l : List ℕ). laid l (to + 1) (y ∷ [])) e1) ∙
    ap (λ (l : List ℕ). laid l (to + 2) (z ∷ []))
    (laid-behind b to (x ∷ []) (omega (arith, room)) (y ∷ []) (to + 1) (omega arith)) ∙
    laid-behind b to (x ∷ y ∷ []) (omega (arith, room)) (z ∷ []) (to + 2) (omega arith) ∙ ap (laid b to) (sym w)

-- another piece has the operands of its kind, and stands as it is given
other-words : (cs : List ℤ) (at start n : ℕ) → is_mask (get_or (map bits_of cs) at 0) ≡ false →
    n ≡ operands_of (get_or (map bits_of cs) at 0) → at < length cs →
    piece (map bits_of cs) at start ≡ map bits_of (take (at + 1 + n - at) (drop at cs))
other-words cs at start n o e h =
    let ws = map bits_of cs in
    let t : 1 + operands_of (get_or ws at 0) ≡ at + 1 + n - at = omega (arith, e) in
    other-stored ws at start o (omega (arith, h, length-map cs bits_of)) ∙ ap (λ (k : ℕ). take k (drop at ws)) t ∙
    sym (bits-part cs at (at + 1 + n - at))

pub given_word-requires-then-is_mask : goal.given_word-requires-then-is_mask
given_word-requires-then-is_mask c =
    let cs = c.args.commands.now in
    let ws = map bits_of cs in
    let mask : is_mask (get_or ws c.args.at 0) ≡ true =
    ap is_mask (sym c.given_natural-kind.ensures.0) ∙ sym c.is_mask.ensures ∙ c.if-is_mask.true in
    omega (
      arith,
      mask-there ws c.args.at mask (omega (arith, c.requires.0, length-map cs bits_of)),
      length-map cs bits_of,
    )

pub store-requires-then-is_mask-2 : goal.store-requires-then-is_mask-2
store-requires-then-is_mask-2 c =
    let a = c.args in
    let cs = a.commands.now in
    let ws = map bits_of cs in
    let mask : is_mask (get_or ws a.at 0) ≡ true =
    ap is_mask (sym c.given_natural-kind.ensures.0) ∙ sym c.is_mask.ensures ∙ c.if-is_mask.true in
    let words = mask-words ws a.at a.start mask (omega (arith, c.requires.0, length-map cs bits_of)) in
    omega (arith, c.requires.1, ap length words, c.store.auto.bytes, c.store-then-is_mask.auto.bytes)

pub returns-then-is_mask : goal.returns-then-is_mask
returns-then-is_mask c =
    let a = c.args in
    let cs = a.commands.now in
    let ws = map bits_of cs in
    let mask : is_mask (get_or ws a.at 0) ≡ true =
    ap is_mask (sym c.given_natural-kind.ensures.0) ∙ sym c.is_mask.ensures ∙ c.if-is_mask.true in
    let words : piece ws a.at a.start ≡
    c.given_word.result ∷ a.start ∷ c.given_word-then-is_mask.result ∷ [] =
    rw (c.given_word.ensures, c.given_word-then-is_mask.ensures)
    (mask-words ws a.at a.start mask (omega (arith, c.requires.0, length-map cs bits_of))) in
    three-laid a.script.now a.to c.given_word.result a.start c.given_word-then-is_mask.result words c.requires.1
    c.store.ensures c.store-then-is_mask.ensures c.store-then-is_mask-2.ensures

pub slice_bounds-store_words-end : goal.slice_bounds-store_words-end
slice_bounds-store_words-end c =
    let k = get_or (map bits_of c.args.commands.now) c.args.at 0 in
    let other : is_mask k ≡ false =
    ap is_mask (sym c.given_natural-kind.ensures.0) ∙ sym c.is_mask.ensures ∙ c.if-is_mask.false in
    let n : c.operands.result ≡ operands_of k = c.operands.ensures.0 ∙ ap operands_of c.given_natural-kind.ensures.0 in
    omega (arith, c.requires.0, other-operands k other, n)

pub store_words-requires : goal.store_words-requires
store_words-requires c =
    let a = c.args in
    let cs = a.commands.now in
    let k = get_or (map bits_of cs) a.at 0 in
    let n = c.operands.result in
    let other : is_mask k ≡ false =
    ap is_mask (sym c.given_natural-kind.ensures.0) ∙ sym c.is_mask.ensures ∙ c.if-is_mask.false in
    let words = other-words cs a.at a.start n other
    (c.operands.ensures.0 ∙ ap operands_of c.given_natural-kind.ensures.0) (omega (arith, c.requires.0)) in
    omega (arith, c.requires.1, ap length words, length-map (take (a.at + 1 + n - a.at) (drop a.at cs)) bits_of)

pub returns : goal.returns
returns c =
    let a = c.args in
    let cs = a.commands.now in
    let k = get_or (map bits_of cs) a.at 0 in
    let other : is_mask k ≡ false =
    ap is_mask (sym c.given_natural-kind.ensures.0) ∙ sym c.is_mask.ensures ∙ c.if-is_mask.false in
    let words = other-words cs a.at a.start c.operands.result other
    (c.operands.ensures.0 ∙ ap operands_of c.given_natural-kind.ensures.0) (omega (arith, c.requires.0)) in
    c.store_words.ensures ∙ ap (laid a.script.now a.to) (sym words)
