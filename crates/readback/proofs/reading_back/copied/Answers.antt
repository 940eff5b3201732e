-- `copied` reads a script with room: its words, its mask bytes, and what it says beside them, by the
-- contracts of its calls. Assumes nothing.
use Rattle.std.proofs.Common.{arith, ◌≡◌, ◌≤◌, sym, ◌∙◌, ℕ, List, length, Ok}
use Rattle.words.specs.Answers.{first_of}
use Rattle.script.specs.Script.{check_rows}
use Rattle.script.proofs.Passed.{Passed, passed}
use Rattle.readback.specs.ReadBack.{read_rows, given_in}
use Rattle.readback.proofs.Accepted.{whole-commands}
use Rattle.readback.proofs.ReadRooms.{commands-length, masks-length, masks-part, accepted, words-fit, bytes_fit}
use Rattle.readback.proofs.ReadRooms.{said-is}
use Rattle.readback.proofs.reading_back.copied.Goals as goal

-- a script with room passes all tests
module _ (s : List ℕ) (words bytes : ℕ) (h : first_of (read_rows s words bytes) ≡ Ok tt) where
  fine : Passed s
  fine = passed s (accepted s words bytes h)

  enough : 64 ≤ length s
  enough = omega (arith, fine.fine.enough)

pub natural-first-requires : goal.natural-first-requires
natural-first-requires c = omega (arith, enough c.args.script.now _ _ c.requires)

pub natural-count-requires : goal.natural-count-requires
natural-count-requires c = omega (arith, enough c.args.script.now _ _ c.requires)

pub natural-from-requires : goal.natural-from-requires
natural-from-requires c = omega (arith, enough c.args.script.now _ _ c.requires)

pub natural-bytes-requires : goal.natural-bytes-requires
natural-bytes-requires c = omega (arith, enough c.args.script.now _ _ c.requires)

pub copy_commands-words-requires : goal.copy_commands-words-requires
copy_commands-words-requires c =
    let s = c.args.script.now in
    let f = c.natural-first.ensures.0 in
    let g = c.natural-count.ensures.0 in (
      whole-commands s (accepted s _ _ c.requires) f g,
      rw (f, g) (words-fit s (length c.args.commands.now) (length c.args.masks.now) c.requires),
    )

pub slice_bounds-copy_bytes-end : goal.slice_bounds-copy_bytes-end
slice_bounds-copy_bytes-end c =
    omega (
      arith,
      c.natural-from.ensures.0,
      c.natural-bytes.ensures.0,
      (fine c.args.script.now _ _ c.requires).fine.bytes,
    )

pub copy_bytes-requires : goal.copy_bytes-requires
copy_bytes-requires c =
    let s = c.args.script.now in
    rw (masks-part s c.natural-from.ensures.0 c.natural-bytes.ensures.0)
    (bytes_fit s (length c.args.commands.now) (length c.args.masks.now) c.requires)

pub number-requires : goal.number-requires
number-requires c = omega (arith, enough c.args.script.now _ _ c.requires)

pub read_params-requires : goal.read_params-requires
read_params-requires c = (fine c.args.script.now _ _ c.requires).whole

pub returns : goal.returns
unfolding given_in
returns c =
    let s = c.args.script.now in
    let w = rw (c.natural-first.ensures.0, c.natural-count.ensures.0) at c.copy_commands-words.ensures in
    record {
      answer =
          said-is (given_in s) c.number.ensures c.read_params.ensures (w.0 ∙ sym (commands-length s))
          (c.natural-bytes.ensures.0 ∙ sym (masks-length s (accepted s _ _ c.requires)));
      words = w.1;
      bytes = rw (masks-part s c.natural-from.ensures.0 c.natural-bytes.ensures.0) at c.copy_bytes.ensures;
    }
