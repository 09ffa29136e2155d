use Rattle.st_plain.proofs.looking.+look.Given as goal

abbrev pub decreases-look : goal.decreases-look
decreases-look l = l.reach.now.more
