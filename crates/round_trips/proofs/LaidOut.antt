-- The layout of a script: its words and its mask bytes, by what it holds, as they are read from its
-- bytes; and what is written of one that the reader accepts. Assumes nothing.
use mathlib.Core.Path.{◌≡◌, refl, sym, ap, ◌∙◌}
use mathlib.Core.Bool.{Bool, true, false, ◌&&◌, true≢false}
use mathlib.Core.List.{List, [], ◌∷◌, ◌++◌, map}
use Prim.Native.Nat.{ℕ, ◌+◌, ◌-◌, ◌*◌, ◌/◌, ◌%◌, ◌≤◌, ◌<◌, ◌^◌}
use native.Mathlib.Omega.{arith}
use lib.Dec.{eqb}
use lib.IntN.{pos}
use lib.ListN.{length, take, drop, replicate, length-append, length-replicate, length-drop, take-append-drop}
use lib.Seq.{drop_at, drop-drop}
use borrow.Author.Tests.{eqb-true, not-false}
use Rattle.std.specs.Prelude.{Ok}
use Rattle.fixed.specs.declared.Fixed.{Fixed}
use Rattle.fixed.specs.Integers.{bits_of}
use Rattle.fixed.specs.Fixed.{from_bits, less_f}
use Rattle.fixed.proofs.Tests.{both_false}
use Rattle.zones.specs.declared.state.HintParams.{HintParams}
use Rattle.words.specs.Words.{raw_at, negative, words_from}
use Rattle.words.specs.Bytes.{bytes_of}
use Rattle.words.specs.Answers.{first_of}
use Rattle.words.proofs.Words.{raw-drop, from-length, words-split}
use Rattle.words.proofs.Rows.{none-holds}
use Rattle.words.proofs.Laid.{bytes-length}
use Rattle.header.specs.Header.{differs, outside, all_zero, padded, length_bad, header_rows}
use Rattle.header.specs.Params.{pairs_in, param_rows}
use Rattle.header.proofs.Fine.{header-refusing, params-refusing}
use Rattle.header.proofs.Tests.{alike}
use Rattle.script.specs.Script.{check_rows}
use Rattle.script.proofs.Passed.{Passed, passed}
use Rattle.writer.specs.Pieces.{given_operands}
use Rattle.writer.specs.ToWrite.{Given, number_word, param_words, pieces_in, command_words, header_words, script_words}
use Rattle.writer.specs.ToWrite.{padded_bytes, script_for}
use Rattle.writer.specs.Refusals.{FineParams}
use Rattle.writer.proofs.Cutting.{joined-pieces}
use Rattle.writer.proofs.Laying.{signed-bits}
use Rattle.writer.proofs.Sizes.{script-length}
use Rattle.writer.proofs.Answering.{Unrefused}
use Rattle.readback.specs.ReadBack.{given_in}
use Rattle.readback.proofs.ReadRooms.{masks-length}
use Rattle.round_trips.specs.RoundTrips.{Bytes}
use Rattle.round_trips.proofs.WordBytes.{Small, small-both, bits_small, Holds, holds-front, holds-back}
use Rattle.round_trips.proofs.WordBytes.{holds-moved, words-there, word_small, bytes-from}
use Rattle.round_trips.proofs.Parameters.{number_small, params_small, param-words}
use Rattle.round_trips.proofs.Starts.{starts-small}

-- ---- a script by what it holds
-- a scale, parameters, command words and mask bytes
pub record Contents : Type 0 where
  pub scale : Fixed
  pub params : HintParams
  pub commands : List ℕ
  pub masks : List ℕ

abbrev pub contents : Fixed → HintParams → List ℕ → List ℕ → Contents
contents scale params commands masks =
    record { scale = scale; params = params; commands = commands; masks = masks }

-- how many words the parameters and the commands take, and all words
abbrev pub param_count : Contents → ℕ
param_count c = length (param_words c.params)

abbrev pub command_count : Contents → ℕ
command_count c = length c.commands

abbrev pub word_count : Contents → ℕ
word_count c = 8 + param_count c + command_count c

-- and the zeros behind so many mask bytes
abbrev pub zeros_behind : ℕ → List ℕ
zeros_behind n = replicate (4 * padded n - n) 0

-- the words, and the bytes
unfoldable pub words_with : Contents → List ℕ
words_with c =
    header_words c.scale (param_count c) (command_count c) (length c.masks) ++
    (param_words c.params ++ c.commands)

unfoldable pub script_with : Contents → List ℕ
script_with c = bytes_of (words_with c) ++ padded_bytes c.masks

-- how many there are
words-many : (c : Contents) → length (words_with c) ≡ word_count c
unfolding words_with
words-many c = omega (arith, length-append (param_words c.params) c.commands)

pub bytes-many : (c : Contents) → length (script_with c) ≡ 4 * (word_count c + padded (length c.masks))
unfolding script_with padded_bytes
bytes-many c =
    let n = length c.masks in
    let none : ℕ = 0 in
    omega (
      arith,
      length-append (bytes_of (words_with c)) (c.masks ++ zeros_behind n),
      length-append c.masks (zeros_behind n),
      length-replicate (4 * padded n - n) none,
      bytes-length (words_with c),
      words-many c,
    )

-- the words of the header, and where the others stand
pub record LaidOut (c : Contents) (w : ℕ → ℕ) : Type 0 where
  pub version : w 0 ≡ 1
  pub scale : w 1 ≡ number_word c.scale
  pub params_at : w 2 ≡ 8
  pub params : w 3 ≡ param_count c
  pub commands_at : w 4 ≡ 8 + param_count c
  pub commands : w 5 ≡ command_count c
  pub masks_at : w 6 ≡ word_count c
  pub masks : w 7 ≡ length c.masks
  pub params_there : Holds w 8 (param_words c.params)
  pub commands_there : Holds w (8 + param_count c) c.commands

-- what a script can hold: the scale is 1 bit or more, the counts are fine, the command words are
-- below 2^32, and the script is short
pub record Holdable (c : Contents) : Type 0 where
  pub scaled : less_f c.scale (from_bits (pos 1)) ≡ false
  pub params : FineParams c.params
  pub small : Small c.commands
  pub short : length (script_with c) ≤ 65536

module _ (c : Contents) (f : Holdable c) where
  -- all words are below 2^32
  words_small : Small (words_with c)
  unfolding words_with
  words_small =
      let header = header_words c.scale (param_count c) (command_count c) (length c.masks) in
      small-both header (param_words c.params ++ c.commands)
      (omega (arith, number_small c.scale, bytes-many c, f.short))
      (small-both (param_words c.params) c.commands (params_small c.params f.params) f.small)

  -- so they come out of the script's bytes
  words-read : Holds (raw_at (script_with c)) 0 (words_with c)
  unfolding script_with
  words-read = words-there (script_with c) 0 (words_with c) (padded_bytes c.masks) refl words_small

  -- each in its place
  pub laid_out : LaidOut c (raw_at (script_with c))
  unfolding words_with
  laid_out =
      let w = raw_at (script_with c) in
      let ps = param_words c.params in
      let k = words-read in
      let behind = k.1.1.1.1.1.1.1.1 in
      record {
        version = k.0;
        scale = k.1.0;
        params_at = k.1.1.0;
        params = k.1.1.1.0;
        commands_at = k.1.1.1.1.0;
        commands = k.1.1.1.1.1.0;
        masks_at = k.1.1.1.1.1.1.0;
        masks = k.1.1.1.1.1.1.1.0;
        params_there = holds-front w 8 ps c.commands behind;
        commands_there = holds-back w 8 (8 + param_count c) ps c.commands refl behind;
      }

  -- the command words, from their offset on
  pub commands-read : Holds (raw_at (drop (4 * (8 + param_count c)) (script_with c))) 0 c.commands
  commands-read =
      let at = 8 + param_count c in
      let z : at + 0 ≡ at = omega arith in
      holds-moved _ (raw_at (script_with c)) at (raw-drop (script_with c) at) 0 c.commands
      (rw z laid_out.commands_there)

-- the mask bytes stand behind the words
pub masks-there : (c : Contents) → drop (4 * word_count c) (script_with c) ≡ padded_bytes c.masks
unfolding script_with
masks-there c =
    drop_at (bytes_of (words_with c)) (padded_bytes c.masks) (4 * word_count c)
    (omega (arith, bytes-length (words_with c), words-many c))

-- and zeros behind them
pub zeros-there : (c : Contents) →
    drop (4 * word_count c + length c.masks) (script_with c) ≡ zeros_behind (length c.masks)
unfolding padded_bytes
zeros-there c =
    sym (drop-drop (length c.masks) (4 * word_count c) (script_with c)) ∙
    ap (drop (length c.masks)) (masks-there c) ∙
    drop_at c.masks (zeros_behind (length c.masks)) (length c.masks) refl

-- ---- a script that the writer does not refuse
-- the command words have the starts of their masks
abbrev pub contents_of : Given → Contents
contents_of g = contents g.scale g.params (command_words g.commands) g.masks

pub script-is : (g : Given) → script_for g ≡ script_with (contents_of g)
unfolding script_for script_words script_with words_with
script-is g = refl

pub holdable : (g : Given) → Unrefused g → Holdable (contents_of g)
unfolding command_words
holdable g c =
    let few : 0 + length g.masks < 2 ^ 32 = omega (arith, c.short, script-length g) in
    record {
      scaled = c.scaled;
      params = c.params;
      small =
          starts-small 0 0 (length g.masks) (pieces_in g.commands) c.pieces few
          (rw (joined-pieces given_operands (map bits_of g.commands)) (bits_small g.commands));
      short = rw (script-is g) at c.short;
    }

-- ---- a script that the reader accepts
-- the rest of its header, and what its mask bytes end with
pub record Layout (s : List ℕ) : Type 0 where
  pub version : raw_at s 0 ≡ 1
  pub offset : raw_at s 2 ≡ 8
  pub params : raw_at s 3 ≡ 8 + 2 * pairs_in (raw_at s)
  pub all : length s ≡ 4 * (raw_at s 6 + padded (raw_at s 7))
  pub zeros : all_zero (drop (4 * raw_at s 6 + raw_at s 7) s) ≡ true

-- a length that is fine is one in fours
in-fours : (n : ℕ) → length_bad n ≡ false → n % 4 ≡ 0
unfolding length_bad
in-fours n e = alike (n % 4) 0 (both_false (outside 32 65536 n) (differs (n % 4) 0) e).1

-- a script that passes all tests is laid out so
pub layout : (s : List ℕ) → Passed s → Layout s
unfolding header_rows param_rows
layout s p =
    let f = none-holds (Ok tt) (header_rows s) (header-refusing s) p.header in
    let g = none-holds (Ok tt) (param_rows (raw_at s)) (params-refusing s) p.params in
    let n = in-fours (length s) (f 0) in
    let b = both_false (negative (raw_at s 7)) (differs (raw_at s 6 + padded (raw_at s 7)) (length s / 4)) (f 7) in
    let m = alike (raw_at s 6 + padded (raw_at s 7)) (length s / 4) b.1 in
    record {
      version = alike (raw_at s 0) 1 (f 1);
      offset = alike (raw_at s 2) 8 (f 2);
      params = alike (raw_at s 3) (8 + 2 * pairs_in (raw_at s)) (g 5);
      all = omega arith;
      zeros = not-false (all_zero (drop (4 * raw_at s 6 + raw_at s 7) s)) (f 8);
    }

-- bytes that are all zero are so many zeros
zero-bytes : (l : List ℕ) → all_zero l ≡ true → l ≡ replicate (length l) 0
unfolding all_zero
zero-bytes [] e = refl
zero-bytes (b ∷ l) e = go (eqb b 0) refl e (λ q. zero-bytes l q)
  where
    go : (t : Bool) → eqb b 0 ≡ t → (t && all_zero l) ≡ true → (all_zero l ≡ true → l ≡ replicate (length l) 0) →
        b ∷ l ≡ 0 ∷ replicate (length l) 0
    go true f e h = let z = eqb-true b 0 f in let k = h e in cc
    go false f e h = absurd (true≢false (sym e))

module _ (s : List ℕ) (held : Bytes s) (e : first_of (check_rows s) ≡ Ok tt) where
  abbrev w : ℕ → ℕ
  w = raw_at s

  -- the mask bytes with zeros up to a whole word are the end of the script
  masks-padded : padded_bytes (given_in s).masks ≡ drop (4 * w 6) s
  unfolding padded_bytes given_in
  masks-padded =
      let p = passed s e in
      let m = 4 * w 6 in
      let n = w 7 in
      let f = p.fine.bytes in
      let k : length (drop (m + n) s) ≡ 4 * padded n - n = omega (arith, length-drop (m + n) s, (layout s p).all) in
      rw (masks-length s e)
      (ap (λ (r : List ℕ). take n (drop m s) ++ r)
      (sym (drop-drop n m s ∙ zero-bytes (drop (m + n) s) (layout s p).zeros ∙ ap (λ (x : ℕ). replicate x 0) k)) ∙
      take-append-drop n (drop m s))

  -- the header is words 0 to 7
  header-words : header_words (given_in s).scale (w 3) (w 5) (w 7) ≡ words_from w 0 8
  unfolding words_from given_in
  header-words =
      let p = passed s e in
      let l = layout s p in
      rw (l.version, signed-bits (w 1) (word_small s held 1), l.offset, p.fine.masks, p.fine.commands)

  -- the parameters end where the commands start
  params-end : param_words (given_in s).params ≡ words_from w 8 (w 3)
  unfolding given_in
  params-end =
      param-words w (word_small s held) ∙ ap (λ (n : ℕ). words_from w 8 n) (sym (layout s (passed s e)).params)

  -- so they have as many words as word 3 says
  pub params-many : length (param_words (given_in s).params) ≡ w 3
  params-many = ap length params-end ∙ from-length w 8 (w 3)

  -- header, parameters and commands are all words before the mask bytes
  all_words : words_from w 0 8 ++ (words_from w 8 (w 3) ++ words_from w (w 4) (w 5)) ≡ words_from w 0 (w 6)
  all_words =
      let f = (passed s e).fine in
      let n : 8 + (w 3 + w 5) ≡ w 6 = omega (arith, f.commands, f.masks) in
      rw (f.commands, sym (words-split w 8 (w 3) (w 5))) (sym (words-split w 0 8 (w 3 + w 5)) ∙ ap (words_from w 0) n)

  -- where the command words that are written are its own, so are all words
  words-again : command_words (given_in s).commands ≡ words_from w (w 4) (w 5) →
      script_words (given_in s) ≡ words_from w 0 (w 6)
  unfolding script_words
  words-again c =
      rw (params-end, c, from-length w 8 (w 3), from-length w (w 4) (w 5), masks-length s e)
      (ap (λ (l : List ℕ). l ++ (words_from w 8 (w 3) ++ words_from w (w 4) (w 5))) header-words ∙ all_words)

  -- and all bytes
  pub script-again : command_words (given_in s).commands ≡ words_from w (w 4) (w 5) → script_for (given_in s) ≡ s
  unfolding script_for
  script-again c =
      let f = (passed s e).fine in
      let n : 4 * (0 + w 6) ≤ length s = omega (arith, f.ends, f.masks) in
      rw (words-again c, masks-padded, bytes-from s held 0 (w 6) n) (take-append-drop (4 * w 6) s)
