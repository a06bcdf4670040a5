use mathlib.Core.Path.{refl}
use Rattle.text_rows.proofs.TableLaws.{arrives, outside}
use Rattle.text_rows.proofs.table.by_name.Goals as goal

pub returns-in-1 : goal.returns-in-1
returns-in-1 c = arrives c.requires 27 refl 0 refl c.in-1.is

pub returns-in-7 : goal.returns-in-7
returns-in-7 c = arrives c.requires 27 refl 1 refl c.in-7.is

pub returns-in-9 : goal.returns-in-9
returns-in-9 c = arrives c.requires 27 refl 2 refl c.in-9.is

pub returns-in-11 : goal.returns-in-11
returns-in-11 c = arrives c.requires 27 refl 3 refl c.in-11.is

pub returns-in-13 : goal.returns-in-13
returns-in-13 c = arrives c.requires 27 refl 4 refl c.in-13.is

pub returns-in-14 : goal.returns-in-14
returns-in-14 c = arrives c.requires 27 refl 5 refl c.in-14.is

pub returns-in-16 : goal.returns-in-16
returns-in-16 c = arrives c.requires 27 refl 6 refl c.in-16.is

pub returns-in-18 : goal.returns-in-18
returns-in-18 c = arrives c.requires 27 refl 7 refl c.in-18.is

pub returns-in-20 : goal.returns-in-20
returns-in-20 c = arrives c.requires 27 refl 8 refl c.in-20.is

pub returns-in-22 : goal.returns-in-22
returns-in-22 c = arrives c.requires 27 refl 9 refl c.in-22.is

pub returns-in-25 : goal.returns-in-25
returns-in-25 c = arrives c.requires 27 refl 10 refl c.in-25.is

pub returns-in-32 : goal.returns-in-32
returns-in-32 c = arrives c.requires 27 refl 11 refl c.in-32.is

pub returns-in-36 : goal.returns-in-36
returns-in-36 c = arrives c.requires 27 refl 12 refl c.in-36.is

pub returns-in-35 : goal.returns-in-35
returns-in-35 c = arrives c.requires 27 refl 13 refl c.in-35.is

pub returns-in_default : goal.returns-in_default
returns-in_default c = outside c.requires 27 refl refl c.in_default.in_default-own.rest refl
