use lib.ListN.{get_or}
use mathlib.Core.List.{[]}
use mathlib.Core.Path.{◌∙◌, ap, sym}
use Rattle.fields.specs.Slot.{slot_name, slot_of}
use Rattle.files.specs.Name.{Name, same_name}
use Rattle.laws.proofs.FirstLaws.{first-ext}
use Rattle.name_lists.specs.Names.{names_in}
use Rattle.name_lists.proofs.NamesLaws.{names_at}
use Rattle.name_lists.proofs.list.Names.find.Goals as goal

pub returns : goal.returns
unfolding slot_of
returns c =
    let n = c.args.self.now in
    let w = c.args.w.now in (
      c.from.ensures ∙ c.slot_of.ensures.0
          ∙ first-ext (λ i. same_name (slot_name n.names i) w) (λ i. same_name (get_or (names_in n) i []) w) n.count
          (λ i h. ap (λ (x : Name). same_name x w) (sym (names_at n i h))),
      rw c.from.ensures c.slot_of.ensures.1,
    )
