-- `run_by`: the commands from here on, over the hints that the lists keep and the pen, make of the words
-- from the next free one what all commands make of all words. A turn takes a command, or makes the map
-- that one wants. Assumes nothing.
use Rattle.std.proofs.Common.{◌+◌, ◌-◌, ◌*◌}
use Rattle.zones.specs.Numbers.{state_in}
use Rattle.build.specs.Made.{NoteRoom}
use Rattle.commands.specs.Commands.{word_by}
use Rattle.run.proofs.Turns.{unready}
use Rattle.run.proofs.Keeping.{Running}
use Rattle.run.proofs.running.run_by.Given as goal

abbrev pub invariant-loop-at : goal.invariant-loop-at
invariant-loop-at l =
    Running (state_in l.gauge l.zones) l.script (word_by l.words) l.first l.n l.from l.initial.out l.mask
    l.lists.stems l.lists.initial l.lists.map l.lists.tags l.sizes l.pen l.next l.at l.out × NoteRoom l.lists.notes

abbrev pub decreases-loop-at : goal.decreases-loop-at
decreases-loop-at l = 2 * (l.n - l.at) + unready l.sizes.valid
