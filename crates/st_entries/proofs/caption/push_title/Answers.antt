use Rattle.std.proofs.lemmas.Result.{IfOk-equal}
use Rattle.st_entries.specs.Caption.{title}
use Rattle.st_entries.proofs.Bytes.{bytes_joined, five_joined}
use Rattle.st_entries.proofs.caption.push_title.Goals as goal

pub returns-in_ok-push_numbered-in-Done-4 : goal.returns-in_ok-push_numbered-in-Done-4
unfolding title
returns-in_ok-push_numbered-in-Done-4 c = rw c.in-Done.is (IfOk-equal _ _ _ _ c.push_numbered-in-Done-4.ensures
    (five_joined _ _ _ _ _ _ _ _ _ _ c.in_ok-push_numbered-in-Done.ensures c.in_ok-push_numbered-in-Done-2.ensures
    c.in_ok-push_numbered-in-Done-3.ensures c.in_ok-push_numbered-in-Done-4.ensures))

pub returns-in_ok-push_numbered-in-Dropped : goal.returns-in_ok-push_numbered-in-Dropped
unfolding title
returns-in_ok-push_numbered-in-Dropped c = rw c.in-Dropped.is (IfOk-equal _ _ _ _ c.push_numbered-in-Dropped-2.ensures
    (bytes_joined _ _ _ _ c.in_ok-push_numbered-in-Dropped.ensures))
