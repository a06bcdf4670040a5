use mathlib.Core.Path.{refl, sym}
use Rattle.diagrams.specs.View.{diagram_of}
use Rattle.fields.proofs.RefusalLaws.{passed-on}
use Rattle.converting.proofs.ConversionLaws.{all-fit, reader-refusal, puts, room, short-refusal, wide-refusal, wide-test}
use Rattle.converting.proofs.convert.Goals as goal

pub returns-in_err-d : goal.returns-in_err-d
returns-in_err-d c = reader-refusal c.args.file.now c.args.out.now c.from_residual.result _ (passed-on _ _ _ c.from_residual.ensures.1) c.in_err-d.ensures.says

pub returns-then-from-is_narrow : goal.returns-then-from-is_narrow
returns-then-from-is_narrow c =
    let d = diagram_of c.in_ok-d.d.stored in
    let h = sym c.in_ok-d.ensures.says in
    wide-refusal c.args.file.now c.args.out.now d h _ refl (wide-test c.args.file.now c.args.out.now d h c.byte-from.ensures c.is_narrow.ensures c.if-from-is_narrow.true)

pub returns-then-out-lt4096 : goal.returns-then-out-lt4096
returns-then-out-lt4096 c =
    let d = diagram_of c.in_ok-d.d.stored in
    let h = sym c.in_ok-d.ensures.says in
    let w = wide-test c.args.file.now c.args.out.now d h c.byte-from.ensures c.is_narrow.ensures c.if-from-is_narrow.false in
    short-refusal c.args.file.now c.args.out.now d h w _ refl c.if-out-lt4096.true

pub put_fields-requires : goal.put_fields-requires
put_fields-requires c =
    let d = diagram_of c.in_ok-d.d.stored in
    let h = sym c.in_ok-d.ensures.says in
    let w = wide-test c.args.file.now c.args.out.now d h c.byte-from.ensures c.is_narrow.ensures c.if-from-is_narrow.false in
    rw (c.other_edition.ensures, c.byte-from.ensures)
    (all-fit c.args.file.now c.args.out.now d h w, room c.args.file.now c.args.out.now d h w c.if-out-lt4096.false)

pub returns : goal.returns
returns c =
    let d = diagram_of c.in_ok-d.d.stored in
    let h = sym c.in_ok-d.ensures.says in
    let w = wide-test c.args.file.now c.args.out.now d h c.byte-from.ensures c.is_narrow.ensures c.if-from-is_narrow.false in
    puts c.args.file.now c.args.out.now d h w _ refl c.if-out-lt4096.false (rw (c.other_edition.ensures, c.byte-from.ensures) at c.put_fields.ensures)
