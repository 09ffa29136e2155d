use Rattle.st_asm.proofs.Common.{arith, words_of_storage_is}
use Rattle.st_asm.proofs.FaultLemmas.{storage-means}
use Rattle.st_asm.proofs.ImageLemmas.{image-put, image-kept}
use Rattle.st_asm.proofs.valuing.put_bits.Goals as goal

pub put_field-requires-clause-inside : goal.put_field-requires-clause-inside
put_field-requires-clause-inside c =
    let means = storage-means c.args.place c.args.length c.requires.inside c.if-length-eq0.false in
    omega (arith, means.1, c.requires.image.size, words_of_storage_is)

pub returns-clause-put : goal.returns-clause-put
returns-clause-put c =
    image-put c.args.image.now c.put_field.new.words c.args.place c.args.length c.args.bits c.if-length-eq0.false
    c.put_field.auto.words (λ w. omega (arith, c.type_inv.image w)) c.put_field.ensures.put

pub returns-clause-image : goal.returns-clause-image
returns-clause-image c =
    let means = storage-means c.args.place c.args.length c.requires.inside c.if-length-eq0.false in
    image-kept c.args.image.now c.put_field.new.words c.args.place c.requires.image c.put_field.auto.words means.0
    c.put_field.ensures.before
