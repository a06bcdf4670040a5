use mathlib.Core.Path.{refl}
use Rattle.text_rows.proofs.StartsLaws.{mark-alone, mark-dash, mark-dot, mark-greater, mark-less, mark-none}
use Rattle.text_rows.proofs.tokens.mark_at.Goals as goal

pub returns-in-60 : goal.returns-in-60
returns-in-60 c = mark-less _ c.requires c.in-60.is c.by_byte.ensures c.by_byte-in-60.ensures c.by_byte-in-60-2.ensures

pub returns-in-45 : goal.returns-in-45
returns-in-45 c = mark-dash _ c.requires c.in-45.is c.by_byte-in-45.ensures c.by_byte-in-45-2.ensures

pub returns-in-62 : goal.returns-in-62
returns-in-62 c = mark-greater _ c.requires c.in-62.is c.by_byte-in-62.ensures

pub returns-in-46 : goal.returns-in-46
returns-in-46 c = mark-dot _ c.requires c.in-46.is c.by_byte-in-46.ensures

pub returns-in-123 : goal.returns-in-123
returns-in-123 c = mark-alone _ c.requires 0 refl c.in-123.is

pub returns-in-125 : goal.returns-in-125
returns-in-125 c = mark-alone _ c.requires 1 refl c.in-125.is

pub returns-in-59 : goal.returns-in-59
returns-in-59 c = mark-alone _ c.requires 2 refl c.in-59.is

pub returns-in-44 : goal.returns-in-44
returns-in-44 c = mark-alone _ c.requires 3 refl c.in-44.is

pub returns-in-40 : goal.returns-in-40
returns-in-40 c = mark-alone _ c.requires 4 refl c.in-40.is

pub returns-in-41 : goal.returns-in-41
returns-in-41 c = mark-alone _ c.requires 5 refl c.in-41.is

pub returns-in-91 : goal.returns-in-91
returns-in-91 c = mark-alone _ c.requires 6 refl c.in-91.is

pub returns-in-93 : goal.returns-in-93
returns-in-93 c = mark-alone _ c.requires 7 refl c.in-93.is

pub returns-in-42 : goal.returns-in-42
returns-in-42 c = mark-alone _ c.requires 8 refl c.in-42.is

pub returns-in_default : goal.returns-in_default
returns-in_default c = mark-none _ c.requires c.in_default.in_default-own.rest
