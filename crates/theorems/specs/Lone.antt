-- Lone calls and opening without a script (01, the rows after its table): how each ends, with 01's
-- number, words and place.
use Rattle.std.specs.Prelude.{◌≡◌, true, false, List, ◌≤◌, ◌<◌, ℤ, pos, length, ◌≤ℤ◌, ◌<ℤ◌}
use Rattle.fixed.specs.declared.Fixed.{Fixed}
use Rattle.fixed.specs.Fixed.{ONE}
use Rattle.zones.specs.declared.state.HintParams.{HintParams}
use Rattle.zones.specs.declared.state.HintState.{HintState}
use Rattle.zones.specs.State.{counts_fit, state_of}
use Rattle.pen.specs.Records.{written}
use Rattle.pen.specs.Drawn.{call_number, call_words, call_place}
use Rattle.hints.specs.declared.drawing.Drawing.{Drawing}
use Rattle.drawing.specs.declared.calls.After.{After}
use Rattle.drawing.specs.declared.opening.Opened.{Opened}
use Rattle.hints.specs.Calls.{Call, next_of, words_for}
use Rattle.hints.specs.Calls.{new_drawing}
use Rattle.drawing.specs.Open.{refused_state, open_number, open_place}

-- ---- a lone call
-- one that fits is done and answers its words
pub record Done (st : HintState) (d : Drawing) (c : Call) (out : List ℤ) (said : After) (left : List ℤ) : Type 0 where
  pub fits : length (words_for st d c) ≤ length out
  pub number : call_number said.answer ≡ 0
  pub words : call_words said.answer ≡ length (words_for st d c)
  pub place : call_place said.answer ≡ 0
  pub drawing : said.drawing ≡ next_of st d c
  pub memory : left ≡ written (words_for st d c) out

-- one that does not changes neither drawing nor buffer
pub record Refused (st : HintState) (d : Drawing) (c : Call) (out : List ℤ) (said : After) (left : List ℤ) : Type 0
  where
    pub short : length out < length (words_for st d c)
    pub number : call_number said.answer ≡ 6
    pub words : call_words said.answer ≡ 0
    pub place : call_place said.answer ≡ 0
    pub drawing : said.drawing ≡ d
    pub memory : left ≡ out

pub data CallEnds (st : HintState) (d : Drawing) (c : Call) (out : List ℤ) (said : After) (left : List ℤ) : Type 0 where
  done : Done st d c out said left → CallEnds st d c out said left
  refused : Refused st d c out said left → CallEnds st d c out said left

-- ---- opening
-- what stands beside a refused one: scale 1.0, all else 0
pub record Blank (said : Opened) : Type 0 where
  pub place : open_place said.answer ≡ 0
  pub state : said.state ≡ refused_state
  pub drawing : said.drawing ≡ new_drawing ONE

-- the scale is refused first
pub record ScaleRefused (s : Fixed) (said : Opened) : Type 0 where
  pub small : s.bits <ℤ pos 1
  pub number : open_number said.answer ≡ 2
  pub blank : Blank said

-- then the counts
pub record CountsRefused (p : HintParams) (s : Fixed) (said : Opened) : Type 0 where
  pub scale : pos 1 ≤ℤ s.bits
  pub counts : counts_fit p ≡ false
  pub number : open_number said.answer ≡ 3
  pub blank : Blank said

pub record Accepted (p : HintParams) (s : Fixed) (said : Opened) : Type 0 where
  pub scale : pos 1 ≤ℤ s.bits
  pub counts : counts_fit p ≡ true
  pub number : open_number said.answer ≡ 0
  pub place : open_place said.answer ≡ 0
  pub state : said.state ≡ state_of p s
  pub drawing : said.drawing ≡ new_drawing s

pub data OpenEnds (p : HintParams) (s : Fixed) (said : Opened) : Type 0 where
  bad_scale : ScaleRefused s said → OpenEnds p s said
  bad_blues : CountsRefused p s said → OpenEnds p s said
  accepted : Accepted p s said → OpenEnds p s said
