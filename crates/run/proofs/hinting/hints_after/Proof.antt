-- `hints_after` does to the hints what each command asks. At each turn the hints, and as many of the
-- commands from here on as are left, give the hints that are asked. Assumes nothing.
use mathlib.Core.Path.{◌≡◌, refl, sym, ap, ◌∙◌}
use mathlib.Core.Bool.{Bool}
use Prim.Native.Nat.{suc, ◌+◌, ◌-◌, ◌*◌, ◌≤◌}
use native.Mathlib.Omega.{arith}
use lib.ListN.{length, drop, length-drop}
use borrow.Author.Rules.{rules}
use Rattle.hints.specs.declared.hints.Hints.{Hints}
use Rattle.stems.specs.declared.mask.HintMask.{HintMask}
use Rattle.hints.specs.Hints.{with_mask, countered}
use Rattle.hints.specs.Calls.{ready_for, hints_of}
use Rattle.words.specs.Words.{raw_at}
use Rattle.commands.specs.declared.reading.Marking.{Marking}
use Rattle.commands.specs.declared.reading.Command.{Command}
use Rattle.commands.specs.declared.reading.Command.TheVariants.{Mark}
use Rattle.commands.specs.declared.reading.Read.{Read}
use Rattle.commands.specs.Commands.{read_at}
use Rattle.pen.proofs.Lent.{lent}
use Rattle.commands.proofs.Laws.{next-is}
use Rattle.run.specs.Run.{call_of, mask_end}
use Rattle.run.proofs.Calls.{idle-hints}
use Rattle.run.proofs.Reading.{mask-there}
use Rattle.run.proofs.Turns.{wanted}
use Rattle.run.proofs.Looking.{Looking, looking, turn, none_left, none-there}
use Rattle.run.proofs.hinting.hints_after.Statement.{statement}
use Rattle.run.proofs.hinting.hints_after.Lts.{in-Mark+in-Bad, in-Mark+in-Stem, in-Mark+in-Mask, in-Mark+in-Counter}
use Rattle.run.proofs.hinting.hints_after.Lts.{in-Mark+in-Clear, in-Mark+in-Close}
use Rattle.run.proofs.hinting.hints_after.Lts.{in-Draw+then-wants_map, in-Draw+else-wants_map}
use Rattle.run.proofs.hinting.hints_after.Tie as tie

abbrev invariant-loop : tie.invariant-loop
invariant-loop script first n from state commands start hints₀ at₀ counter₀ hints at counter =
    Looking state script (raw_at (drop (4 * first) script)) first n from commands hints at (commands - counter)

abbrev decreases-loop : tie.decreases-loop
decreases-loop script first n from state commands start hints₀ at₀ counter₀ hints at counter = commands - counter

-- the arguments, from a turn's start
abbrev begin : tie.At-loop invariant-loop decreases-loop → tie.Start invariant-loop decreases-loop
begin l = l.before.before.before.before

-- a word that is there starts in the script
first-inside : (c : tie.Else-at-n invariant-loop decreases-loop) →
    4 * (begin c.before.before).args.first ≤ length (begin c.before.before).args.script.now
first-inside c =
    let s = begin c.before.before in
    omega (arith, s.requires.0, length-drop (4 * s.args.first) s.args.script.now, c.if-at-n.false)

module _ (c : tie.After-read_command-read invariant-loop decreases-loop) where
  abbrev here : tie.At-loop invariant-loop decreases-loop
  here = c.before.before.before.before

  -- the command that was read
  read_is : c.read_command-read.result ≡
      read_at (raw_at (drop (4 * (begin here).args.first) (begin here).args.script.now)) (begin here).args.n
      here.loop.at
  read_is = rw (lent (begin here).args.script.now (4 * (begin here).args.first)) at c.read_command-read.ensures

  -- what a command asks of the hints
  abbrev asks : Command → Hints
  asks x =
      hints_of (begin here).args.state here.loop.hints
      (call_of (begin here).args.script.now (begin here).args.from x)

  abbrev marks : Marking → Hints
  marks m = asks (Mark m)

  -- the mask that it names is there
  inside : {m : Marking} → c.read_command-read.result.command ≡ Mark m →
      (begin here).args.from + mask_end m ≤ length (begin here).args.script.now
  inside e =
      mask-there here.loop.invariant.sound c.if-at-n.false
      (ap (λ (x : Read). x.command) (sym read_is) ∙ e)

-- the hints behind a command are those that it asks
made : (c : tie.Joined-command invariant-loop decreases-loop) → asks c.before c.read_command-read.result.command ≡
    c.match-command.hints
made c =
    let r = c.before in
    let l = here r in
    let a = (begin l).args in
    let h = l.loop.hints in
    elim c.match-command.branch [
      | in-Mark+in-Bad w ↦ ap (asks r) w.in-Mark.is ∙ ap (marks r) w.in-Bad.is ∙ sym w.hints-is
      | in-Mark+in-Stem w ↦
          ap (asks r) w.in-Mark.is ∙ ap (marks r) w.in-Stem.is ∙ sym (w.hints-is ∙ w.with_stem-hints.ensures)
      | in-Mark+in-Mask w ↦
          ap (asks r) w.in-Mark.is ∙ ap (marks r) w.in-Mask.is ∙
          ap (λ (m : HintMask). with_mask m h) (sym w.mask_at.ensures) ∙ sym (w.hints-is ∙ w.with_mask-hints.ensures)
      | in-Mark+in-Counter w ↦
          ap (asks r) w.in-Mark.is ∙ ap (marks r) w.in-Counter.is ∙
          ap (λ (m : HintMask). countered a.state m h) (sym w.mask_at-in-Counter.ensures) ∙
          sym (w.hints-is ∙ w.counter-hints.ensures)
      | in-Mark+in-Clear w ↦
          ap (asks r) w.in-Mark.is ∙ ap (marks r) w.in-Clear.is ∙ sym (w.hints-is ∙ w.new-hints-in-Clear.ensures)
      | in-Mark+in-Close w ↦ ap (asks r) w.in-Mark.is ∙ ap (marks r) w.in-Close.is ∙ sym w.hints-is
      | in-Draw+then-wants_map w ↦
          ap (asks r) w.in-Draw.is ∙
          ap (λ (b : Bool). ready_for b a.state h)
          (wanted h.map.is_valid w.in-Draw.path (sym w.wants_map.ensures ∙ w.if-wants_map.true)).1 ∙
          sym (w.hints-is ∙ w.ready-hints.ensures)
      | in-Draw+else-wants_map w ↦
          ap (asks r) w.in-Draw.is ∙
          idle-hints a.state h h.map.is_valid refl w.in-Draw.path (sym w.wants_map.ensures ∙ w.if-wants_map.false) ∙
          sym w.hints-is
    ]

mul-start : tie.Need-overflow_mul-start invariant-loop decreases-loop
mul-start c = omega (arith, c.requires.1.start)

new-requires : tie.Need-new-hints-requires invariant-loop decreases-loop
new-requires c κs = search rules

loop-holds : tie.Need-loop-init invariant-loop decreases-loop
loop-holds c =
    let s = c in
    let a = s.args in
    rw c.new-hints.ensures (looking a.state a.script.now (raw_at (drop (4 * a.first) a.script.now)) a.first
    a.n a.from a.commands s.requires.1 (omega arith))

returns : tie.Need-returns-then-at-n invariant-loop decreases-loop
returns c = none-there c.loop.invariant c.if-at-n.true

sub-read-command : tie.Need-slice_bounds-read_command-count invariant-loop decreases-loop
sub-read-command c = first-inside c

part-read-command-start : tie.Need-slice_bounds-read_command-start invariant-loop decreases-loop
part-read-command-start c = first-inside c

part-read-command-end : tie.Need-slice_bounds-read_command-end invariant-loop decreases-loop
part-read-command-end c = search rules

read-command-requires : tie.Need-read_command-read-requires invariant-loop decreases-loop
read-command-requires c κs =
    let s = begin c.before.before.before in
    rw (lent s.args.script.now (4 * s.args.first)) (s.requires.0, c.if-at-n.false)

enum-known-command : tie.Need-enum_known-command invariant-loop decreases-loop
enum-known-command c = search rules

enum_told : tie.Need-enum_told-1 invariant-loop decreases-loop
enum_told c = search rules

enum-known-marking : tie.Need-enum_known-marking invariant-loop decreases-loop
enum-known-marking c = search rules

with-stem-requires : tie.Need-with_stem-hints-requires invariant-loop decreases-loop
with-stem-requires c κs = search rules

enum-known-marking-2 : tie.Need-enum_known-marking-in-Mark invariant-loop decreases-loop
enum-known-marking-2 c = search rules

mask-at-requires : tie.Need-mask_at-requires invariant-loop decreases-loop
mask-at-requires c κs =
    omega (arith, inside c.before.before (c.in-Mark.is ∙ ap Mark c.in-Mask.is))

with-mask-requires : tie.Need-with_mask-hints-requires invariant-loop decreases-loop
with-mask-requires c κs = search rules

enum-known-marking-3 : tie.Need-enum_known-marking-in-Mark-2 invariant-loop decreases-loop
enum-known-marking-3 c = search rules

mask-at-requires-2 : tie.Need-mask_at-requires-in-Counter invariant-loop decreases-loop
mask-at-requires-2 c κs =
    omega (arith, inside c.before.before (c.in-Mark.is ∙ ap Mark c.in-Counter.is))

counter-requires : tie.Need-counter-hints-requires invariant-loop decreases-loop
counter-requires c κs = search rules

enum-told-2 : tie.Need-enum_told-in-Clear invariant-loop decreases-loop
enum-told-2 c = search rules

new-requires-2 : tie.Need-new-hints-requires-in-Clear invariant-loop decreases-loop
new-requires-2 c κs = search rules

enum-told-3 : tie.Need-enum_told-in-Mark invariant-loop decreases-loop
enum-told-3 c = search rules

enum-known-command-2 : tie.Need-enum_known-command-in-Draw-1 invariant-loop decreases-loop
enum-known-command-2 c = search rules

wants-map-requires : tie.Need-wants_map-requires invariant-loop decreases-loop
wants-map-requires c κs = search rules

ready-requires : tie.Need-ready-hints-requires invariant-loop decreases-loop
ready-requires c κs = search rules

add-counter : tie.Need-overflow_step invariant-loop decreases-loop
add-counter c = search rules

loop-less : tie.Need-loop-smaller invariant-loop decreases-loop
loop-less c = omega (arith, c.loop-test.true)

loop-again : tie.Need-loop-preserved invariant-loop decreases-loop
loop-again c =
    let r = c.before in
    let l = here r in
    let a = (begin l).args in
    let e : a.commands - l.loop.counter ≡ suc (a.commands - (l.loop.counter + 1)) =
    omega (arith, r.loop-test.true) in
    rw (ap (λ (x : Read). x.next) (read_is r) ∙ next-is _ _ _)
    (turn l.loop.invariant r.if-at-n.false e (ap (λ (x : Read). x.command) (sym (read_is r))) (made c))

returns-2 : tie.Need-returns invariant-loop decreases-loop
returns-2 c = none_left c.loop.invariant (omega (arith, c.loop-test.false))

pub hints_after_spec : {M : Type 1} → statement M
hints_after_spec =
    tie.close
    (tie.spec
    invariant-loop
    decreases-loop
    mul-start
    new-requires
    loop-holds
    returns
    sub-read-command
    part-read-command-start
    part-read-command-end
    read-command-requires
    enum-known-command
    enum_told
    enum-known-marking
    with-stem-requires
    enum-known-marking-2
    mask-at-requires
    with-mask-requires
    enum-known-marking-3
    mask-at-requires-2
    counter-requires
    enum-told-2
    new-requires-2
    enum-told-3
    enum-known-command-2
    wants-map-requires
    ready-requires
    add-counter
    loop-less
    loop-again
    returns-2)
