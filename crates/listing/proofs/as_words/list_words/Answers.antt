-- `list_words` leaves the words of the listed records over the list: in each turn there is an edge, and
-- room for the words of its record. Assumes nothing.
use Rattle.std.proofs.Common.{◌≡◌, ℕ, ◌+◌, ◌-◌, ◌*◌, ◌/◌, ◌<◌, ◌≤◌, List, [], ◌∷◌, ◌++◌, length, take}
use Rattle.std.proofs.Common.{refl, sym, ap, ◌∙◌, arith, rules}
use lib.IntN.{ℤ}
use lib.ListN.{length-take}
use lib.Seq.{length-take-le, get_or-take, take_all}
use borrow.Rule.Slice.PartMut.{put_mid}
use Rattle.words.specs.Bytes.{over}
use Rattle.stems.specs.Edge.{no_hint}
use Rattle.hintmap.specs.declared.map.HintMap.{HintMap}
use Rattle.listing.specs.declared.record.EdgeRecord.{EdgeRecord}
use Rattle.listing.specs.Records.{record_of, record_at}
use Rattle.listing.specs.Listing.{records_in, record_words, list_words}
use Rattle.listing.proofs.Answers.{listed-fits, listed-stand, listed_few}
use Rattle.listing.proofs.Words.{over-length, one_more}
use Rattle.listing.proofs.as_words.list_words.Goals as goal

-- a turn that finds the words of the first i records over what is lent
module _ (m : HintMap) (long : length m.edges ≡ 96) (lent : List ℤ) (i : ℕ)
    (there : i < length (records_in m (length lent / 6))) where
  abbrev listed : List EdgeRecord
  listed = records_in m (length lent / 6)

  fits : 6 * length listed ≤ length lent
  fits = omega (arith, listed-fits m (length lent / 6))

  done : length (take i listed) ≡ i
  done = length-take-le i listed (omega (arith, there))

  turn : (i < 96) × (take (i + 1) listed ≡ take i listed ++ (record_at m i ∷ []))
  turn = listed-stand m _ long i there

  module _ {list : List ℤ} (so_far : list ≡ over (list_words (take i listed)) lent) where
    -- there is room for six more
    room : 6 * i + 6 ≤ length list
    room =
        let same : length list ≡ length lent =
        ap length so_far ∙ over-length lent (take i listed) (omega (arith, done, fits, there))
        in
        omega (arith, same, fits, there)

    -- and they go behind the others
    next : {part : List ℤ} → part ≡ record_words (record_at m i) →
        put_mid (6 * i) (6 * i + 6 - 6 * i) list part ≡ over (list_words (take (i + 1) listed)) lent
    next {part} e =
        ap (λ (x : List ℤ). put_mid (6 * i) (6 * i + 6 - 6 * i) x part) so_far ∙
        one_more lent (take i listed) (omega (arith, done, fits, there)) (record_at m i) i (sym done) e ∙
        ap (λ (x : List EdgeRecord). over (list_words x) lent) (sym turn.1)

pub loop-i-init : goal.loop-i-init
unfolding over list_words
loop-i-init c = refl

pub slice_bounds-put_record-end : goal.slice_bounds-put_record-end
slice_bounds-put_record-end c =
    let m = c.args.map in
    let n = c.count_for-count.result in
    let there : c.loop-i.i < length (records_in m (length c.args.list.now / 6)) =
    omega (arith, c.count_for-count.ensures, c.loop-i-test.true, length-take n m.edges)
    in
    room m (search rules) c.args.list.now c.loop-i.i there c.loop-i.invariant

pub loop-i-preserved : goal.loop-i-preserved
loop-i-preserved c =
    let m = c.args.map in
    let n = c.count_for-count.result in
    let i = c.loop-i.i in
    let there : i < length (records_in m (length c.args.list.now / 6)) =
    omega (arith, c.count_for-count.ensures, c.loop-i-test.true, length-take n m.edges)
    in
    let edge = get_or-take n m.edges i no_hint (omega (arith, there, c.count_for-count.ensures)) in
    next m (search rules) c.args.list.now i there c.loop-i.invariant
    (c.put_record.ensures ∙ ap record_words (c.of.ensures ∙ ap record_of edge))

pub returns : goal.returns
returns c =
    let m = c.args.map in
    let listed = records_in m (length c.args.list.now / 6) in
    let long : length m.edges ≡ 96 = search rules in
    let all : length listed ≤ c.loop-i.i =
    omega (
      arith,
      long,
      listed_few m long (length c.args.list.now / 6),
      c.count_for-count.ensures,
      c.loop-i-test.false,
      length-take c.count_for-count.result m.edges,
    )
    in
    record {
      answer = c.answer_for.ensures;
      memory =
          c.loop-i.invariant ∙
          ap (λ (x : List EdgeRecord). over (list_words x) c.args.list.now) (take_all c.loop-i.i listed all);
    }
