-- `put_refusal` puts number and place one behind the other. Assumes nothing.
use Rattle.std.proofs.Common.{ℕ, ◌+◌, ◌%◌, ◌<◌, ◌≤◌, false, List, ◌++◌, length, sym, arith, rules}
use Rattle.decimal.specs.Decimal.{Put}
use Rattle.decimal.proofs.Putting.{room-first, room-rest, put_both}
use Rattle.edges.specs.Page.{refused_text, place_text, end_text, refusal_line}
use Rattle.edges.proofs.Parts.{part, from_place, refusal-room}
use Rattle.edges.proofs.counts.put_refusal.Goals as goal

-- the room of the line, whatever the place is, and what is left of it for the place
module _ (out : List ℕ) (e : 100 ≤ length out) (n : ℕ) (h : n < 4294967296) (p : ℕ) (g : p < 4294967296) where
  room : 0 + length (part refused_text n ++ from_place p) ≤ length out
  room = omega (arith, e, refusal-room n p h g)

  left : {end : ℕ} {o : List ℕ} → Put (part refused_text n) 0 out end o → end + length (from_place p) ≤ length o
  left = room-rest _ _ (part refused_text n) (from_place p) room

pub put_count-number-requires : goal.put_count-number-requires
put_count-number-requires c =
    let n : c.code.result < 4294967296 = search rules in (
      n,
      room-first _ _ (part refused_text c.code.result) (from_place 0)
          (room c.args.out.now c.requires c.code.result n 0 (omega arith)),
    )

pub put_count-place-requires : goal.put_count-place-requires
put_count-place-requires c =
    let p = c.place.result % 4294967296 in
    let n : c.code.result < 4294967296 = search rules in (
      omega arith,
      room-first _ _ (part place_text p) (end_text false)
          (left c.args.out.now c.requires c.code.result n p (omega arith) c.put_count-number.ensures),
    )

pub put_end-requires : goal.put_end-requires
put_end-requires c =
    let p = c.place.result % 4294967296 in
    let n : c.code.result < 4294967296 = search rules in
    room-rest _ _ (part place_text p) (end_text false)
    (left c.args.out.now c.requires c.code.result n p (omega arith) c.put_count-number.ensures)
    c.put_count-place.ensures

pub returns : goal.returns
unfolding refusal_line
returns c =
    let p = c.place.result % 4294967296 in
    let n : c.code.result < 4294967296 = search rules in
    rw (sym c.code.ensures, sym c.place.ensures)
    (put_both _ _ (part refused_text c.code.result) (from_place p)
    (room c.args.out.now c.requires c.code.result n p (omega arith))
    c.put_count-number.ensures
    (put_both _ _ (part place_text p) (end_text false)
    (left c.args.out.now c.requires c.code.result n p (omega arith) c.put_count-number.ensures)
    c.put_count-place.ensures c.put_end.ensures))
