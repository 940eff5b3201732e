-- The tests of a script in turn: each kind answers where those before it do not refuse. Assumes
-- nothing.
use mathlib.Core.Path.{◌≡◌, refl, ap, ◌∙◌}
use mathlib.Core.List.{List}
use Prim.Native.Nat.{ℕ, ◌≤◌}
use lib.ListN.{length}
use Rattle.std.specs.Prelude.{Ok}
use Rattle.std.specs.Result.{result_and}
use Rattle.words.specs.Words.{raw_at}
use Rattle.words.specs.Answers.{first_of}
use Rattle.words.proofs.Rows.{in-turn}
use Rattle.words.proofs.Answers.{says_is}
use Rattle.header.specs.Header.{header_rows}
use Rattle.header.specs.Params.{param_rows}
use Rattle.header.proofs.Fine.{fine}
use Rattle.commands.specs.Faults.{command_rows}
use Rattle.script.specs.Script.{commands_in, check_rows}

-- header, then parameters, then commands
pub checked : (s : List ℕ) →
    first_of (check_rows s) ≡
    result_and (first_of (header_rows s))
    (result_and (first_of (param_rows (raw_at s))) (first_of (command_rows (raw_at s 7) (commands_in s))))
unfolding check_rows header_rows param_rows
checked s =
    in-turn tt (Ok tt) (header_rows s) _ refl ∙
    ap (result_and (first_of (header_rows s))) (in-turn tt (Ok tt) (param_rows (raw_at s)) _ refl)

-- behind the header the words of the header and of the parameters are there
pub enough : (s : List ℕ) → first_of (header_rows s) ≡ Ok tt → 64 ≤ length s
enough s h = (fine s h).enough

pub ruleset tests_in_turn = (says_is, checked, enough)
