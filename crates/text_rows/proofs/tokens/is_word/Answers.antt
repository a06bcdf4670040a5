use mathlib.Core.Path.{refl}
use Rattle.text_rows.proofs.CandidateLaws.{is_known, is-unknown}
use Rattle.text_rows.proofs.tokens.is_word.Goals as goal

pub returns-in-0 : goal.returns-in-0
returns-in-0 c = is_known c.args.w.now 0 refl c.in-0.is c.same_name.ensures

pub returns-in-1 : goal.returns-in-1
returns-in-1 c = is_known c.args.w.now 1 refl c.in-1.is c.same_name-in-1.ensures

pub returns-in-2 : goal.returns-in-2
returns-in-2 c = is_known c.args.w.now 2 refl c.in-2.is c.same_name-in-2.ensures

pub returns-in-3 : goal.returns-in-3
returns-in-3 c = is_known c.args.w.now 3 refl c.in-3.is c.same_name-in-3.ensures

pub returns-in-4 : goal.returns-in-4
returns-in-4 c = is_known c.args.w.now 4 refl c.in-4.is c.same_name-in-4.ensures

pub returns-in-5 : goal.returns-in-5
returns-in-5 c = is_known c.args.w.now 5 refl c.in-5.is c.same_name-in-5.ensures

pub returns-in-6 : goal.returns-in-6
returns-in-6 c = is_known c.args.w.now 6 refl c.in-6.is c.same_name-in-6.ensures

pub returns-in-7 : goal.returns-in-7
returns-in-7 c = is_known c.args.w.now 7 refl c.in-7.is c.same_name-in-7.ensures

pub returns-in-8 : goal.returns-in-8
returns-in-8 c = is_known c.args.w.now 8 refl c.in-8.is c.same_name-in-8.ensures

pub returns-in-9 : goal.returns-in-9
returns-in-9 c = is_known c.args.w.now 9 refl c.in-9.is c.same_name-in-9.ensures

pub returns-in_default : goal.returns-in_default
returns-in_default c = is-unknown c.args.w.now c.requires c.in_default.in_default-own.rest
