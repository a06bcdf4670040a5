use Rattle.std.proofs.Common.{◌≡◌, get_or, length}
use Rattle.texts.specs.Table.{words_for}
use Rattle.text_rows.specs.Noted.{unpassed}
use Rattle.text_rows.specs.RowAt.{row_at}
use Rattle.text_rows.proofs.BoundLaws.{count-bound}
use Rattle.text_rows.proofs.Scanned.count_for.Goals as goal

pub returns : goal.returns
returns c =
    let r = c.args.self.now in
    let q = c.args.q.number in
    let e : (get_or r.states c.from.result unpassed).count ≡ length (words_for q q q (row_at r.rest.now)) = rw c.from.ensures (r.scans.count-is q c.args.q.in_table) in
    (e, rw e (count-bound q q q r.rest.now))
