use Rattle.std.proofs.Common.{ap, not}
use Rattle.text_loading.proofs.ReplyLaws.{ends_of, known_of, read_of, replies, says-forbidden, says-unknown}
use Rattle.text_loading.proofs.read_text.Goals as goal

pub returns-then-not-is_accepted : goal.returns-then-not-is_accepted
returns-then-not-is_accepted c = search replies depth 8 fits 20000

pub unwrap-body-requires : goal.unwrap-body-requires
unwrap-body-requires c = ends_of c.is_accepted.ensures (ap not c.if-not-is_accepted.false) c.row_end.ensures

pub returns-then-o : goal.returns-then-o
returns-then-o c =
    let r = read_of c.is_accepted.ensures (ap not c.if-not-is_accepted.false) c.row_end.ensures c.unwrap-body.ensures c.new-o.ensures in
    says-forbidden r c.new-o.result.forbids c.if-o.true

pub returns-then-has_unknown : goal.returns-then-has_unknown
returns-then-has_unknown c =
    let r = read_of c.is_accepted.ensures (ap not c.if-not-is_accepted.false) c.row_end.ensures c.unwrap-body.ensures c.new-o.ensures in
    says-unknown r c.new-o.result.forbids c.if-o.false c.has_unknown.ensures c.if-has_unknown.true

pub read_known-requires : goal.read_known-requires
read_known-requires c = (
  read_of c.is_accepted.ensures (ap not c.if-not-is_accepted.false) c.row_end.ensures c.unwrap-body.ensures c.new-o.ensures,
  known_of c.new-o.result.forbids c.if-o.false c.has_unknown.ensures c.if-has_unknown.false,
)
