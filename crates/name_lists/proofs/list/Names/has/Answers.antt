use Rattle.std.proofs.Common.{◌∙◌, [], ap, get_or, sym}
use Rattle.fields.specs.Slot.{is_among, slot_name}
use Rattle.files.specs.Name.{Name, same_name}
use Rattle.laws.proofs.BoundedLaws.{any-ext}
use Rattle.name_lists.specs.Names.{names_in}
use Rattle.name_lists.proofs.NamesLaws.{names_at}
use Rattle.name_lists.proofs.list.Names.has.Goals as goal

pub returns : goal.returns
unfolding is_among
returns c =
    let n = c.args.self.now in
    let w = c.args.w.now in
    c.is_among.ensures
    ∙ any-ext (λ i. same_name (slot_name n.names i) w) (λ i. same_name (get_or (names_in n) i []) w) n.count
    (λ i h. ap (λ (x : Name). same_name x w) (sym (names_at n i h)))
