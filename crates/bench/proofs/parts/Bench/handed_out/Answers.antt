use Rattle.bench.proofs.HandOutLaws.{hand-done, hand-none, hand-short, hand-written}
use Rattle.bench.proofs.parts.Bench.handed_out.Goals as goal

pub returns-in_err-w : goal.returns-in_err-w
returns-in_err-w c = hand-none c.args.self.now c.args.out.now _ c.from_residual.ensures.1 c.in_err-w.ensures.value

pub returns-then-out-lt60000 : goal.returns-then-out-lt60000
returns-then-out-lt60000 c = hand-short c.args.self.now c.in_ok-w.w c.in_ok-w.ensures.ok_part c.args.out.now c.if-out-lt60000.true

pub unwrap-n-requires : goal.unwrap-n-requires
unwrap-n-requires c =
    hand-written c.args.self.now c.in_ok-w.w c.in_ok-w.ensures.ok_part c.unwrap-d.result c.place_of.ensures c.unwrap-d.ensures c.args.out.now c.write_record.new.out c.write_record.result
    c.if-out-lt60000.false c.write_record.ensures

pub returns : goal.returns
returns c =
    hand-done c.args.self.now c.in_ok-w.w c.in_ok-w.ensures.ok_part c.unwrap-d.result c.place_of.ensures c.unwrap-d.ensures c.args.out.now c.if-out-lt60000.false
    c.unwrap-n.ensures c.write_record.ensures
