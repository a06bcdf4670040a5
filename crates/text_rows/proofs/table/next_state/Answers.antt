use mathlib.Core.Logic.{⊎_elim}
use mathlib.Core.Path.{refl}
use Rattle.text_rows.proofs.TableLaws.{arrives, arrows, as-name, associations, outside, stray}
use Rattle.text_rows.proofs.table.next_state.Goals as goal

pub returns-in-3 : goal.returns-in-3
returns-in-3 c = arrives c.requires.0 4 c.in-4.is 0 refl c.in-3.is

pub returns-in_default-q : goal.returns-in_default-q
returns-in_default-q c = outside c.requires.0 4 c.in-4.is refl c.in_default-q.in_default-q-own.rest refl

pub returns-in-5-q : goal.returns-in-5-q
returns-in-5-q c = arrives c.requires.0 5 c.in-5.is 0 refl c.in-5-q.is

pub returns-in_default-q-2 : goal.returns-in_default-q-2
returns-in_default-q-2 c = outside c.requires.0 5 c.in-5.is refl c.in_default-q-2.in_default-q-2-own.rest refl

pub returns-in-27-q : goal.returns-in-27-q
returns-in-27-q c = arrives c.requires.0 6 c.in-6.is 0 refl c.in-27-q.is

pub returns-in-41 : goal.returns-in-41
returns-in-41 c = arrives c.requires.0 6 c.in-6.is 1 refl c.in-41.is

pub returns-in_default-q-3 : goal.returns-in_default-q-3
returns-in_default-q-3 c = outside c.requires.0 6 c.in-6.is refl c.in_default-q-3.in_default-q-3-own.rest refl

pub returns-in-2 : goal.returns-in-2
returns-in-2 c = arrives c.requires.0 7 c.in-7.is 0 refl c.in-2.is

pub returns-in-8-q : goal.returns-in-8-q
returns-in-8-q c = arrives c.requires.0 7 c.in-7.is 1 refl c.in-8-q.is

pub returns-in-21-q : goal.returns-in-21-q
returns-in-21-q c = arrives c.requires.0 7 c.in-7.is 2 refl c.in-21-q.is

pub returns-in_default-q-4 : goal.returns-in_default-q-4
returns-in_default-q-4 c = outside c.requires.0 7 c.in-7.is refl c.in_default-q-4.in_default-q-4-own.rest refl

pub returns-in-13-q : goal.returns-in-13-q
returns-in-13-q c = arrives c.requires.0 8 c.in-8.is 0 refl c.in-13-q.is

pub returns-in-3-q : goal.returns-in-3-q
returns-in-3-q c = arrives c.requires.0 8 c.in-8.is 1 refl c.in-3-q.is

pub returns-in_default-q-5 : goal.returns-in_default-q-5
returns-in_default-q-5 c = outside c.requires.0 8 c.in-8.is refl c.in_default-q-5.in_default-q-5-own.rest refl

pub returns-in-8-q-2 : goal.returns-in-8-q-2
returns-in-8-q-2 c = arrives c.requires.0 9 c.in-9.is 0 refl c.in-8-q-2.is

pub returns-in-15-q : goal.returns-in-15-q
returns-in-15-q c = arrives c.requires.0 9 c.in-9.is 1 refl c.in-15-q.is

pub returns-in-23 : goal.returns-in-23
returns-in-23 c = arrives c.requires.0 9 c.in-9.is 2 refl c.in-23.is

pub returns-in_default-q-6 : goal.returns-in_default-q-6
returns-in_default-q-6 c = outside c.requires.0 9 c.in-9.is refl c.in_default-q-6.in_default-q-6-own.rest refl

pub returns-in-10-q : goal.returns-in-10-q
returns-in-10-q c = arrives c.requires.0 10 c.in-10.is 0 refl c.in-10-q.is

pub returns-in-12-q : goal.returns-in-12-q
returns-in-12-q c = arrives c.requires.0 10 c.in-10.is 1 refl c.in-12-q.is

pub returns-in-19-q : goal.returns-in-19-q
returns-in-19-q c = arrives c.requires.0 10 c.in-10.is 2 refl c.in-19-q.is

pub returns-in-23-q : goal.returns-in-23-q
returns-in-23-q c = arrives c.requires.0 10 c.in-10.is 3 refl c.in-23-q.is

pub returns-in_default-q-7 : goal.returns-in_default-q-7
returns-in_default-q-7 c = outside c.requires.0 10 c.in-10.is refl c.in_default-q-7.in_default-q-7-own.rest refl

pub returns-in-31 : goal.returns-in-31
returns-in-31 c = arrives c.requires.0 11 c.in-11.is 0 refl c.in-31.is

pub returns-in-35 : goal.returns-in-35
returns-in-35 c = arrives c.requires.0 11 c.in-11.is 1 refl c.in-35.is

pub returns-in_default-q-8 : goal.returns-in_default-q-8
returns-in_default-q-8 c = outside c.requires.0 11 c.in-11.is refl c.in_default-q-8.in_default-q-8-own.rest refl

pub returns-in-33 : goal.returns-in-33
returns-in-33 c = arrives c.requires.0 12 c.in-12.is 0 refl c.in-33.is

pub returns-in-37 : goal.returns-in-37
returns-in-37 c = arrives c.requires.0 12 c.in-12.is 1 refl c.in-37.is

pub returns-in_default-q-9 : goal.returns-in_default-q-9
returns-in_default-q-9 c = outside c.requires.0 12 c.in-12.is refl c.in_default-q-9.in_default-q-9-own.rest refl

pub returns-in-25-q : goal.returns-in-25-q
returns-in-25-q c = arrives c.requires.0 13 c.in-13.is 0 refl c.in-25-q.is

pub returns-in-39 : goal.returns-in-39
returns-in-39 c = arrives c.requires.0 13 c.in-13.is 1 refl c.in-39.is

pub returns-in_default-q-10 : goal.returns-in_default-q-10
returns-in_default-q-10 c = outside c.requires.0 13 c.in-13.is refl c.in_default-q-10.in_default-q-10-own.rest refl

pub returns-in-27-q-2 : goal.returns-in-27-q-2
returns-in-27-q-2 c = arrives c.requires.0 14 c.in-14.is 0 refl c.in-27-q-2.is

pub returns-in-41-q : goal.returns-in-41-q
returns-in-41-q c = arrives c.requires.0 14 c.in-14.is 1 refl c.in-41-q.is

pub returns-in_default-q-11 : goal.returns-in_default-q-11
returns-in_default-q-11 c = outside c.requires.0 14 c.in-14.is refl c.in_default-q-11.in_default-q-11-own.rest refl

pub returns-in-26-q : goal.returns-in-26-q
returns-in-26-q c = arrives c.requires.0 15 c.in-15.is 0 refl c.in-26-q.is

pub returns-in-40 : goal.returns-in-40
returns-in-40 c = arrives c.requires.0 15 c.in-15.is 1 refl c.in-40.is

pub returns-in_default-q-12 : goal.returns-in_default-q-12
returns-in_default-q-12 c = outside c.requires.0 15 c.in-15.is refl c.in_default-q-12.in_default-q-12-own.rest refl

pub returns-in-0 : goal.returns-in-0
returns-in-0 c = arrives c.requires.0 16 c.in-16.is 0 refl c.in-0.is

pub returns-in_default-q-13 : goal.returns-in_default-q-13
returns-in_default-q-13 c = outside c.requires.0 16 c.in-16.is refl c.in_default-q-13.in_default-q-13-own.rest refl

pub returns-in-3-q-2 : goal.returns-in-3-q-2
returns-in-3-q-2 c = arrives c.requires.0 17 c.in-17.is 0 refl c.in-3-q-2.is

pub returns-in_default-q-14 : goal.returns-in_default-q-14
returns-in_default-q-14 c = outside c.requires.0 17 c.in-17.is refl c.in_default-q-14.in_default-q-14-own.rest refl

pub returns-in-8-q-3 : goal.returns-in-8-q-3
returns-in-8-q-3 c = arrives c.requires.0 18 c.in-18.is 0 refl c.in-8-q-3.is

pub returns-in-17-q : goal.returns-in-17-q
returns-in-17-q c = arrives c.requires.0 18 c.in-18.is 1 refl c.in-17-q.is

pub returns-in_default-q-15 : goal.returns-in_default-q-15
returns-in_default-q-15 c = outside c.requires.0 18 c.in-18.is refl c.in_default-q-15.in_default-q-15-own.rest refl

pub returns-in-8-q-4 : goal.returns-in-8-q-4
returns-in-8-q-4 c = arrives c.requires.0 19 c.in-19.is 0 refl c.in-8-q-4.is

pub returns-in_default-q-16 : goal.returns-in_default-q-16
returns-in_default-q-16 c = outside c.requires.0 19 c.in-19.is refl c.in_default-q-16.in_default-q-16-own.rest refl

pub returns-in-3-q-3 : goal.returns-in-3-q-3
returns-in-3-q-3 c = arrives c.requires.0 20 c.in-20.is 0 refl c.in-3-q-3.is

pub returns-in_default-q-17 : goal.returns-in_default-q-17
returns-in_default-q-17 c = outside c.requires.0 20 c.in-20.is refl c.in_default-q-17.in_default-q-17-own.rest refl

pub returns-in-3-q-4 : goal.returns-in-3-q-4
returns-in-3-q-4 c = arrives c.requires.0 21 c.in-21.is 0 refl c.in-3-q-4.is

pub returns-in_default-q-18 : goal.returns-in_default-q-18
returns-in_default-q-18 c = outside c.requires.0 21 c.in-21.is refl c.in_default-q-18.in_default-q-18-own.rest refl

pub returns-in-3-q-5 : goal.returns-in-3-q-5
returns-in-3-q-5 c = arrives c.requires.0 24 c.in-24.is 0 refl c.in-3-q-5.is

pub returns-in_default-q-19 : goal.returns-in_default-q-19
returns-in_default-q-19 c = outside c.requires.0 24 c.in-24.is refl c.in_default-q-19.in_default-q-19-own.rest refl

pub returns-in-4-q : goal.returns-in-4-q
returns-in-4-q c = arrives c.requires.0 25 c.in-25.is 0 refl c.in-4-q.is

pub returns-in_default-q-20 : goal.returns-in_default-q-20
returns-in_default-q-20 c = as-name c.requires.0 25 c.in-25.is refl c.in_default-q-20.in_default-q-20-own.rest refl c.by_name.ensures

pub returns-in-26-q-2 : goal.returns-in-26-q-2
returns-in-26-q-2 c = arrives c.requires.0 26 c.in-26.is 0 refl c.in-26-q-2.is

pub returns-in-28 : goal.returns-in-28
returns-in-28 c = arrives c.requires.0 26 c.in-26.is 1 refl c.in-28.is

pub returns-in-40-q : goal.returns-in-40-q
returns-in-40-q c = arrives c.requires.0 26 c.in-26.is 2 refl c.in-40-q.is

pub returns-in-42 : goal.returns-in-42
returns-in-42 c = arrives c.requires.0 26 c.in-26.is 3 refl c.in-42.is

pub returns-in_default-q-21 : goal.returns-in_default-q-21
returns-in_default-q-21 c = as-name c.requires.0 26 c.in-26.is refl c.in_default-q-21.in_default-q-21-own.rest refl c.by_name-in_default-q-21.ensures

pub returns-in-31-q : goal.returns-in-31-q
returns-in-31-q c = ⊎_elim (λ e. arrives c.requires.0 0 e 0 refl c.in-31-q.is) (⊎_elim (λ e. arrives c.requires.0 1 e 0 refl c.in-31-q.is) (⊎_elim (λ e. arrives c.requires.0 2 e 0 refl c.in-31-q.is) (λ e. arrives c.requires.0 3 e 0 refl c.in-31-q.is))) (arrows c.args.c c.in-0-to-3.if-c-lt4-own.true)

pub returns-in_default-q-22 : goal.returns-in_default-q-22
returns-in_default-q-22 c = ⊎_elim (λ e. outside c.requires.0 0 e refl c.in_default-q-22.in_default-q-22-own.rest refl) (⊎_elim (λ e. outside c.requires.0 1 e refl c.in_default-q-22.in_default-q-22-own.rest refl) (⊎_elim (λ e. outside c.requires.0 2 e refl c.in_default-q-22.in_default-q-22-own.rest refl) (λ e. outside c.requires.0 3 e refl c.in_default-q-22.in_default-q-22-own.rest refl))) (arrows c.args.c c.in-0-to-3.if-c-lt4-own.true)

pub returns-in-3-q-6 : goal.returns-in-3-q-6
returns-in-3-q-6 c = ⊎_elim (λ e. arrives c.requires.0 22 e 0 refl c.in-3-q-6.is) (λ e. arrives c.requires.0 23 e 0 refl c.in-3-q-6.is) (associations c.requires.1 c.in-22-to-23.in_default-own.rest c.in-22-to-23.if-c-lt4-own.false c.in-22-to-23.if-c-lt24-own.true)

pub returns-in_default-q-23 : goal.returns-in_default-q-23
returns-in_default-q-23 c = ⊎_elim (λ e. outside c.requires.0 22 e refl c.in_default-q-23.in_default-q-23-own.rest refl) (λ e. outside c.requires.0 23 e refl c.in_default-q-23.in_default-q-23-own.rest refl) (associations c.requires.1 c.in-22-to-23.in_default-own.rest c.in-22-to-23.if-c-lt4-own.false c.in-22-to-23.if-c-lt24-own.true)

pub returns-in_default : goal.returns-in_default
returns-in_default c = stray c.requires.0 c.requires.1 c.in_default.in_default-own.rest c.in_default.if-c-lt24-own.false
