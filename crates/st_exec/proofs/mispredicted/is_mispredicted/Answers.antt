use Rattle.st_exec.proofs.Common.{◌≡◌, sym, rules, bit_of}
use Rattle.st_exec.proofs.MispredictionLemmas.{mispredicted-branch, mispredicted-not, no-branch}
use Rattle.st_exec.proofs.mispredicted.is_mispredicted.Goals as goal

pub returns-in-IndBranch : goal.returns-in-IndBranch
returns-in-IndBranch c =
    let p = c.args.p.now in
    let b = c.in-IndBranch in
    let bits : c.from.result ≡ bit_of b.sense = search rules in
    let k = mispredicted-branch p c.args.state.now b.sense b.off b.address b.i b.second c.requires c.word.ensures.machine c.if-p.false c.if-p-2.false b.is in
    cc

pub returns-in_default : goal.returns-in_default
returns-in_default c =
    sym (mispredicted-not c.args.p.now c.args.state.now c.requires c.if-p.false c.if-p-2.false (no-branch c.args.p.now.instr c.in_default.not-IndBranch))
