use Rattle.st_account.proofs.Common.{suc, ◌∷◌, [], subst, ap, Machine, IsMachine, delays-are, predicting}
use Rattle.st_account.proofs.LastLemmas.{few-found, found-is, late-is}
use Rattle.st_account.proofs.ReadLemmas.{banks-behind, soon-behind}
use Rattle.st_account.proofs.behind.look_behind.Goals as goal

pub returns-clause-found : goal.returns-clause-found
returns-clause-found c =
    let l = c.args.last.now in
    let same = ap (λ (s : Machine). record s { ic = l.ic }) c.state.view_is in
    record {
      found =
          found-is c.args.timing.now.delays.now.list c.args.timing.now.levels l.tick c.args.timing.now.levels (predicting l.ic c.args.state.now) _ l.issue
          c.issue_of-issue.result same c.issue_of-issue.ensures c.args.behind.now.ahead.found.items c.look.new.ahead.found.items c.requires.none c.look.ensures.found;
      begun =
          late-is c.args.timing.now.delays.now.list c.args.timing.now.levels l.tick (suc c.args.timing.now.levels) (predicting l.ic c.args.state.now) _ l.issue
          c.issue_of-issue.result same c.issue_of-issue.ensures (c.look.new.ahead.late ∷ []) c.look.ensures.late;
      banks = λ reads start has.
          banks-behind c.args.timing.now.delays.now.list (delays-are c.args.timing.now.delays.now) c.args.timing.now.levels l.tick (predicting l.ic c.args.state.now) _ l.issue
          c.issue_of-issue.result (subst IsMachine c.look.ensures.state c.look.ensures.machine) c.requires.opened.tight same c.issue_of-issue.ensures
          reads start c.args.log.now c.look.new.log c.look.new.issue.bus c.undo.new.banks has c.look.ensures.log c.look.ensures.bus c.undo.ensures;
    }

pub returns-clause-soon : goal.returns-clause-soon
returns-clause-soon c reads start has =
    let l = c.args.last.now in
    soon-behind c.args.timing.now.delays.now.list (delays-are c.args.timing.now.delays.now) c.args.timing.now.levels l.tick (predicting l.ic c.args.state.now) _ l.issue
    c.issue_of-issue.result (subst IsMachine c.look.ensures.state c.look.ensures.machine) c.requires.opened.tight (ap (λ (s : Machine). record s { ic = l.ic }) c.state.view_is) c.issue_of-issue.ensures
    reads start c.args.log.now c.look.new.log c.look.new.issue.bus c.undo.new.banks has c.look.ensures.log c.look.ensures.bus c.undo.ensures

pub returns-clause-few : goal.returns-clause-few
returns-clause-few c =
    few-found c.args.timing.now.delays.now.list c.args.timing.now.levels c.args.last.now.tick c.args.timing.now.levels _ _ c.args.behind.now.ahead.found.items c.look.new.ahead.found.items c.requires.none
    c.args.timing.now.few c.look.ensures.found
