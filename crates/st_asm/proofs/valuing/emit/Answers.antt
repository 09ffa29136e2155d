use Rattle.st_asm.proofs.Common.{◌∙◌, ap, sym, subst, IsTrue, in_storage, placing_of, length_in, rules}
use Rattle.st_asm.proofs.FaultLemmas.{faultless, first-below, second-below, emitted-in_storage}
use Rattle.st_asm.proofs.valuing.emit.Goals as goal

pub bits_of-bits-requires-clause-first : goal.bits_of-bits-requires-clause-first
bits_of-bits-requires-clause-first c =
    let f = faultless c.args.s.now c.args.v _ c.requires.good in first-below c.args.s.now c.args.v f.0 f.1

pub bits_of-bits-requires-clause-second : goal.bits_of-bits-requires-clause-second
bits_of-bits-requires-clause-second c =
    let f = faultless c.args.s.now c.args.v _ c.requires.good in second-below c.args.s.now c.args.v f.0

pub bits_of-bits-requires-clause-fits : goal.bits_of-bits-requires-clause-fits
bits_of-bits-requires-clause-fits c =
    let f = faultless c.args.s.now c.args.v _ c.requires.good in f.1

pub put_bits-requires-clause-inside : goal.put_bits-requires-clause-inside
put_bits-requires-clause-inside c =
    let f = faultless c.args.s.now c.args.v _ c.requires.good in
    let emitted = emitted-in_storage (placing_of c.args.s.now) c.args.v.first _ f.3 in
    let size = c.length-length.ensures.length ∙ ap (λ r. length_in r) c.placing_of.ensures.placing in
    subst (λ n. IsTrue (in_storage c.unwrap_or.result n)) (sym size)
    (subst (λ p. IsTrue (in_storage p (length_in (placing_of c.args.s.now)))) (sym c.unwrap_or.ensures) emitted)

pub half_word-layout-requires : goal.half_word-layout-requires
half_word-layout-requires c =
    let f = faultless c.args.s.now c.args.v _ c.requires.good in
    search (rules, first-below c.args.s.now c.args.v f.0 f.1)
