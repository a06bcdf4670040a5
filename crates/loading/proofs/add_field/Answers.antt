use native.Mathlib.Omega.{arith}
use Rattle.loading.proofs.WithFieldLaws.{allowed-value-type, allowed-type, allowed-attribute, allowed-association, grown-edition, grown-value-type, grown-type, grown-attribute, grown-association}
use Rattle.loading.proofs.add_field.Goals as goal

pub returns-in-16 : goal.returns-in-16
returns-in-16 c = search grown-edition

pub add_value_type-requires : goal.add_value_type-requires
add_value_type-requires c = search allowed-value-type

pub returns-in-32 : goal.returns-in-32
returns-in-32 c = search grown-value-type

pub add_type-requires : goal.add_type-requires
add_type-requires c = search allowed-type

pub returns-in-48 : goal.returns-in-48
returns-in-48 c = search grown-type

pub add_attribute-requires : goal.add_attribute-requires
add_attribute-requires c = search allowed-attribute

pub returns-in-64 : goal.returns-in-64
returns-in-64 c = search grown-attribute

pub add_association-requires : goal.add_association-requires
add_association-requires c = allowed-association c.args.edition c.args.d.now c.args.tag c.args.c.now c.requires (λ h. omega arith) (λ h. omega arith) (λ h. omega arith) (λ h. omega arith)

pub returns-in_default : goal.returns-in_default
returns-in_default c =
    grown-association c.args.edition c.args.d.now c.args.tag c.args.c.now c.requires _ (λ h. omega arith) (λ h. omega arith) (λ h. omega arith) (λ h. omega arith) c.add_association.ensures
