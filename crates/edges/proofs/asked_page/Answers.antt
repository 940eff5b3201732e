-- `asked_page` answers no more than there are bytes. Assumes nothing.
use Rattle.decimal.proofs.Putting.{put-within}
use Rattle.edges.proofs.asked_page.Goals as goal

pub returns-in-Ok : goal.returns-in-Ok
returns-in-Ok g c = put-within c.page_for.ensures

pub returns-in-Err-TooLong : goal.returns-in-Err-TooLong
returns-in-Err-TooLong g c = put-within c.page_for-in-Err-TooLong.ensures

pub returns-in-Err-NotPresent : goal.returns-in-Err-NotPresent
returns-in-Err-NotPresent g c = put-within c.page.ensures
