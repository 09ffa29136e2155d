use Rattle.st_next.proofs.Common.{not, ◌∙◌, ap}
use Rattle.st_next.proofs.Preparing.{none-of, none-plan, ready-none, some-plan, words-seen, side-asked, without-side, ready-inside, ready-table, ready-fits, ready-words, ready-asked, ready-without}
use Rattle.st_next.proofs.fetch_unit.FetchUnit.prepare.Goals as goal

pub returns-then-is_none-clause-value : goal.returns-then-is_none-clause-value
returns-then-is_none-clause-value c ds n now f t u table before is at alone =
    let none = none-of c.args.self.now.needs.index_read c.is_none.result c.is_none.ensures c.if-is_none.true in
    none-plan ds n now f _ _ c.args.self.now c.requires.planned t u table before is none

pub returns-then-is_none-clause-ranges : goal.returns-then-is_none-clause-ranges
returns-then-is_none-clause-ranges c =
    let none = none-of c.args.self.now.needs.index_read c.is_none.result c.is_none.ensures c.if-is_none.true in
    ready-none _ _ c.args.self.now c.requires.planned c.requires.ready none

pub side_word-read-requires-clause-inside : goal.side_word-read-requires-clause-inside
side_word-read-requires-clause-inside c = ready-inside _ _ c.args.self.now c.requires.planned c.requires.ready

pub side_word-read-requires-clause-indicator : goal.side_word-read-requires-clause-indicator
side_word-read-requires-clause-indicator c = ready-table _ _ c.args.self.now c.requires.planned c.requires.ready

pub change_by_side-requires : goal.change_by_side-requires
change_by_side-requires c = ready-fits _ _ c.args.self.now c.requires.planned c.requires.ready

pub returns-clause-value : goal.returns-clause-value
returns-clause-value c ds n now f t u table before is at alone =
    some-plan ds n now f _ _ c.args.self.now c.requires.planned t u table before is _ _
    (c.change_by_side.ensures.value _ _ (words-seen ds n now f _ _ c.args.self.now c.requires.planned t u table before is)
    (side-asked ds n now f _ _ c.args.self.now c.requires.planned t u table before is (c.is_none.ensures ∙ ap not c.if-is_none.false))
    (without-side ds n now f _ _ c.args.self.now c.requires.planned t u table before is))
    c.side_word-read.ensures at alone

pub returns-clause-ranges : goal.returns-clause-ranges
returns-clause-ranges c =
    c.change_by_side.ensures.ranges _ _ (ready-words _ _ c.args.self.now c.requires.planned c.requires.ready)
    (ready-asked _ _ c.args.self.now c.requires.planned c.requires.ready (c.is_none.ensures ∙ ap not c.if-is_none.false))
    (ready-without _ _ c.args.self.now c.requires.planned c.requires.ready)
