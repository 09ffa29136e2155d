use Rattle.st_exec.proofs.Common.{reads, words_written}
use Rattle.st_exec.proofs.InsideLemmas.{inside-index, inside-move, inside-bit, inside-counter, read-bit}
use Rattle.st_exec.proofs.effects.effect_by.Goals as goal

pub index_effect-requires-clause-inside : goal.index_effect-requires-clause-inside
index_effect-requires-clause-inside c =
    inside-index c.in-Half.op c.in-Half.address c.in-Half.j c.in-Half.i c.args.e
    (rw c.in-Half.is at c.requires.written_inside)

pub move_effect-requires : goal.move_effect-requires
move_effect-requires c =
    let fields = rw c.in-Move.is at c.requires.fields in
    inside-move c.in-Move.swap c.in-Move.address c.in-Move.i c.in-Move.second c.in-Move.count c.args.e
    fields.2 (rw c.in-Move.is at c.requires.inside) (rw c.in-Move.is at c.requires.written_inside)

pub operand_field-requires-clause-inside : goal.operand_field-requires-clause-inside
operand_field-requires-clause-inside c =
    inside-bit c.in-BitBranch.sense c.in-BitBranch.change c.in-BitBranch.address c.in-BitBranch.i
    c.in-BitBranch.second c.args.e (rw c.in-BitBranch.is at c.requires.inside)

pub operand_field-requires-clause-read : goal.operand_field-requires-clause-read
operand_field-requires-clause-read c =
    read-bit c.in-BitBranch.sense c.in-BitBranch.change c.in-BitBranch.address c.in-BitBranch.i
    c.in-BitBranch.second c.args.e c.args.operands.now c.args.state.now
    (rw c.in-BitBranch.is at c.requires.read)

pub bit_effect-requires-clause-inside : goal.bit_effect-requires-clause-inside
bit_effect-requires-clause-inside c =
    inside-bit c.in-BitBranch.sense c.in-BitBranch.change c.in-BitBranch.address c.in-BitBranch.i
    c.in-BitBranch.second c.args.e (rw c.in-BitBranch.is at c.requires.inside)

pub returns-in-StoreCounter-clause-can : goal.returns-in-StoreCounter-clause-can
returns-in-StoreCounter-clause-can c =
    inside-counter c.in-StoreCounter.address c.in-StoreCounter.i c.in-StoreCounter.second c.args.e c.args.value
    (rw c.in-StoreCounter.is at c.requires.written_inside) (rw c.in-StoreCounter.is at c.requires.part)

pub operate-left-requires-clause-inside : goal.operate-left-requires-clause-inside
unfolding reads
operate-left-requires-clause-inside c = rw c.in-Vfl.is at c.requires.inside

pub operate-left-requires-clause-read : goal.operate-left-requires-clause-read
unfolding reads
operate-left-requires-clause-read c = rw c.in-Vfl.is at c.requires.read

pub operate-left-requires-clause-written : goal.operate-left-requires-clause-written
unfolding words_written
operate-left-requires-clause-written c = rw c.in-Vfl.is at c.requires.written_inside

pub connect_field-left-requires-clause-inside : goal.connect_field-left-requires-clause-inside
unfolding reads
connect_field-left-requires-clause-inside c = rw c.in-Connect.is at c.requires.inside

pub connect_field-left-requires-clause-read : goal.connect_field-left-requires-clause-read
unfolding reads
connect_field-left-requires-clause-read c = rw c.in-Connect.is at c.requires.read

pub connect_field-left-requires-clause-written : goal.connect_field-left-requires-clause-written
unfolding words_written
connect_field-left-requires-clause-written c = rw c.in-Connect.is at c.requires.written_inside
