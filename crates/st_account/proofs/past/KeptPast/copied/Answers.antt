use Rattle.st_account.proofs.PastLemmas.{eight-put}
use Rattle.st_account.proofs.past.KeptPast.copied.Goals as goal

pub returns : goal.returns
returns c =
    rw (c.put-8.ensures, c.put-7.ensures, c.put-6.ensures, c.put-5.ensures, c.put-4.ensures, c.put-3.ensures, c.put-2.ensures, c.put.ensures)
    (rw (c.entry-8.ensures.value, c.entry-7.ensures.value, c.entry-6.ensures.value, c.entry-5.ensures.value, c.entry-4.ensures.value, c.entry-3.ensures.value, c.entry-2.ensures.value, c.entry.ensures.value)
    (eight-put c.args.self.now c.new-entries.result _ c.entry.ensures.whole))
