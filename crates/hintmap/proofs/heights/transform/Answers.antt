-- `transform` meets its contract, by the edge that serves. Assumes nothing.
use Rattle.std.proofs.Common.{◌≡◌, true, false, sym, ap, ◌∙◌, arith}
use Rattle.fixed.specs.Fixed.{less_f}
use Rattle.stems.specs.Lists.{height_in}
use Rattle.hintmap.specs.Map.{map_of}
use Rattle.hintmap.proofs.Compared.{less-is}
use Rattle.hintmap.proofs.Found.{served}
use Rattle.hintmap.proofs.heights.transform.Goals as goal

pub returns-then-len-eq0 : goal.returns-then-len-eq0
unfolding map_of
returns-then-len-eq0 c =
    let z : c.args.len ≡ 0 = omega arith in
    λ ts. rw z c.mul.ensures

pub returns-then-lt : goal.returns-then-lt
returns-then-lt c =
    λ ts. let a = c.args in
    let i = c.serving-i in
    let t : true ≡ less_f a.height (height_in a.lines.now i.result) =
    sym c.if-lt.true ∙ c.lt.ensures ∙
    less-is a.height c.height_at-2.result ∙ ap (less_f a.height) c.height_at-2.ensures in
    let m = served a.lines.now ts a.len a.scale a.height i.result true c.requires.0 i.ensures.0 i.ensures.1 t in
    cc

pub returns : goal.returns
returns c =
    λ ts. let a = c.args in
    let i = c.serving-i in
    let t : false ≡ less_f a.height (height_in a.lines.now i.result) =
    sym c.if-lt.false ∙ c.lt.ensures ∙
    less-is a.height c.height_at-2.result ∙ ap (less_f a.height) c.height_at-2.ensures in
    let m = served a.lines.now ts a.len a.scale a.height i.result false c.requires.0 i.ensures.0 i.ensures.1 t in
    cc
