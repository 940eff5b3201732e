-- Laws of a whole script: its size, and its parts stored one behind the other. Assumes nothing.
use mathlib.Core.Path.{◌≡◌, sym, ap, ◌∙◌}
use mathlib.Core.List.{List, ◌++◌, map, append_assoc}
use Prim.Native.Nat.{ℕ, ◌+◌, ◌-◌, ◌*◌, ◌≤◌}
use native.Mathlib.Omega.{arith}
use lib.IntN.{ℤ}
use lib.ListN.{length, drop, replicate, length-append, length-replicate, length-map}
use lib.Seq.{take_at, drop_at, drop-drop}
use borrow.Rule.Slice.PartMut.{put_mid}
use Rattle.fixed.specs.Integers.{bits_of}
use Rattle.words.specs.Bytes.{bytes_of, laid, over}
use Rattle.words.proofs.Laid.{bytes-length, laid-behind}
use Rattle.header.specs.Header.{padded}
use Rattle.writer.specs.Pieces.{given_operands, masks_in}
use Rattle.writer.specs.ToWrite.{Given, pieces_in, param_words, command_words, header_words, script_words, padded_bytes}
use Rattle.writer.specs.ToWrite.{script_for}
use Rattle.writer.proofs.Cutting.{joined-pieces, started-length}

-- the commands have one word more for each mask
pub commands-length : (cs : List ℤ) → length (command_words cs) ≡ length cs + masks_in (pieces_in cs)
unfolding command_words
commands-length cs =
    started-length 0 (pieces_in cs) ∙
    ap (λ (n : ℕ). n + masks_in (pieces_in cs))
    (ap length (joined-pieces given_operands (map bits_of cs)) ∙ length-map cs bits_of)

-- mask bytes go up to a whole word
padded-length : (bs : List ℕ) → length (padded_bytes bs) ≡ 4 * padded (length bs)
unfolding padded_bytes
padded-length bs =
    let none : ℕ = 0 in
    omega (
      arith,
      length-append bs (replicate (4 * padded (length bs) - length bs) none),
      length-replicate (4 * padded (length bs) - length bs) none,
    )

-- the header has eight words, before the parameters and the commands
pub words-length : (g : Given) →
    length (script_words g) ≡ 8 + length (param_words g.params) + length (command_words g.commands)
unfolding script_words
words-length g = omega (arith, length-append (param_words g.params) (command_words g.commands))

-- all of them have four bytes each
pub script-length : (g : Given) →
    length (script_for g) ≡
    4 * (8 + length (param_words g.params) + length (command_words g.commands) + padded (length g.masks))
unfolding script_for
script-length g =
    omega (
      arith,
      length-append (bytes_of (script_words g)) (padded_bytes g.masks),
      bytes-length (script_words g),
      words-length g,
      padded-length g.masks,
    )

-- the words of parameters and commands by what is counted of them, and so the size
pub record Counted (g : Given) (n m : ℕ) : Type 0 where
  pub params : n ≡ length (param_words g.params)
  pub words : length g.commands + m ≡ length (command_words g.commands)
  pub size : 4 * (8 + n + (length g.commands + m) + padded (length g.masks)) ≡ length (script_for g)

pub counted : (g : Given) (n m : ℕ) → n ≡ length (param_words g.params) → m ≡ masks_in (pieces_in g.commands) →
    Counted g n m
counted g n m p q =
    record {
      params = p;
      words = omega (arith, q, commands-length g.commands);
      size = omega (arith, p, q, commands-length g.commands, script-length g);
    }

-- ---- the parts stored one behind the other are the script
module _ (g : Given) (b : List ℕ) (r : length (script_for g) ≤ length b) where
  abbrev ps : List ℕ
  ps = param_words g.params

  abbrev cs : List ℕ
  cs = command_words g.commands

  -- the words
  words-laid : {b1 b2 b3 : List ℕ} →
      b1 ≡ laid b 0 (header_words g.scale (length ps) (length cs) (length g.masks)) → b2 ≡ laid b1 8 ps →
      b3 ≡ laid b2 (8 + length ps) cs → b3 ≡ laid b 0 (script_words g)
  unfolding script_words
  words-laid e1 e2 e3 =
      let hs = header_words g.scale (length ps) (length cs) (length g.masks) in
      let n = script-length g in
      let l = length-append hs ps in
      let f2 = e2 ∙ ap (λ (x : List ℕ). laid x 8 ps) e1 ∙ laid-behind b 0 hs (omega (arith, r, n)) ps 8 (omega arith) in
      e3 ∙ ap (λ (x : List ℕ). laid x (8 + length ps) cs) f2 ∙
      laid-behind b 0 (hs ++ ps) (omega (arith, r, n, l)) cs (8 + length ps) (omega (arith, l)) ∙
      ap (laid b 0) (append_assoc hs ps cs)

  -- and the mask bytes behind the words
  pub parts-over : {b1 b2 b3 part : List ℕ} (at k : ℕ) →
      b1 ≡ laid b 0 (header_words g.scale (length ps) (length cs) (length g.masks)) → b2 ≡ laid b1 8 ps →
      b3 ≡ laid b2 (8 + length ps) cs → part ≡ padded_bytes g.masks → at ≡ 4 * (8 + length ps + length cs) →
      k ≡ 4 * padded (length g.masks) → put_mid at k b3 part ≡ over (script_for g) b
  unfolding laid over script_for
  parts-over at k e1 e2 e3 e4 p q =
      let ws = bytes_of (script_words g) in
      let ms = padded_bytes g.masks in
      let n : length ws ≡ at = bytes-length (script_words g) ∙ omega (arith, words-length g, p) in
      let z : 4 * 0 + 4 * length (script_words g) ≡ at = omega (arith, words-length g, p) in
      let e : at + k ≡ length (ws ++ ms) = omega (arith, length-append ws ms, n, padded-length g.masks, q) in
      rw (words-laid e1 e2 e3, e4, z, take_at ws (drop at b) at n, drop_at ws (drop at b) at n, drop-drop k at b, e)
      (sym (append_assoc ws ms (drop (length (ws ++ ms)) b)))
