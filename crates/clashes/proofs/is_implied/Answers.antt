-- `is_implied` meets its contract: each test refutes by a property that all solutions have.
-- Assumes nothing.
use Prim.Native.Nat.{◌<◌}
use mathlib.Core.Bool.{false≢true}
use mathlib.Core.Path.{◌≡◌}
use native.Mathlib.Omega.{arith}
use Rattle.growing.specs.World.{target_count}
use Rattle.link_search.specs.Nets.{InLimits}
use Rattle.worlds.specs.Kept.{ColumnsKept, MirrorsKept, RowsKept, WholesKept, sheet_of}
use Rattle.clashes.specs.Sources.{SourcesKept}
use Rattle.clashes.specs.Clashes.{FirstColumn}
use Rattle.clashes.specs.Refuted.{BitsKept, TargetsKept}
use Rattle.clashes.proofs.SolutionLaws.{bits-kept, first-column, nowhere-by, sources-kept}
use Rattle.clashes.proofs.is_implied.Goals as goal

pub returns-then-q-eq0 : goal.returns-then-q-eq0
returns-then-q-eq0 c =
    λ e. absurd (false≢true e)

pub returns-then-is_bad_bit : goal.returns-then-is_bad_bit
returns-then-is_bad_bit c =
    let a = c.args in
    let x = sheet_of a.tables.now in
    λ _. nowhere-by x a.q.now a.n a.types.at a.q.now.never (λ w. BitsKept a.q.now.must a.q.now.shut w × TargetsKept a.tables.now.targets w)
    (λ w s. (bits-kept x a.q.now a.n w s, record { at = s.allowed.rows.allowed })) (c.is_bad_bit.ensures c.if-is_bad_bit.true)

pub returns-then-is_bad_turn : goal.returns-then-is_bad_turn
returns-then-is_bad_turn c =
    let a = c.args in
    let x = sheet_of a.tables.now in
    λ _. nowhere-by x a.q.now a.n a.types.at a.q.now.never (λ w. BitsKept a.q.now.must a.q.now.shut w × MirrorsKept a.tables.now.lines w)
    (λ w s. (bits-kept x a.q.now a.n w s, s.allowed.mirrors)) (c.is_bad_turn.ensures c.if-is_bad_turn.true)

pub returns-then-is_bad_part : goal.returns-then-is_bad_part
returns-then-is_bad_part c =
    let a = c.args in
    let x = sheet_of a.tables.now in
    λ _. nowhere-by x a.q.now a.n a.types.at a.q.now.never (λ w. BitsKept a.q.now.must a.q.now.shut w × WholesKept a.tables.now.lines w)
    (λ w s. (bits-kept x a.q.now a.n w s, s.allowed.wholes)) (c.is_bad_part.ensures c.if-is_bad_part.true)

pub returns-then-is_bad_first_part : goal.returns-then-is_bad_first_part
returns-then-is_bad_first_part c =
    let a = c.args in
    let x = sheet_of a.tables.now in
    -- there is a first seed
    let seeded : 0 < a.q.now.seeds = (let z : a.q.now.seeds ≡ 0 → ⊥ = c.if-q-eq0.false in omega arith) in
    λ _. nowhere-by x a.q.now a.n a.types.at a.q.now.never
    (λ w. (RowsKept a.tables.now.targets a.tables.now.lows a.tables.now.highs w × InLimits a.q.now.row.low a.q.now.row.high (target_count w a.q.now.row.slot 0)) × (MirrorsKept a.tables.now.lines w × WholesKept a.tables.now.lines w))
    (λ w s. ((s.allowed.rows, s.asked.row seeded), (s.allowed.mirrors, s.allowed.wholes)))
    (c.is_bad_first_part.ensures c.if-is_bad_first_part.true a.tables.now.lows a.tables.now.highs a.q.now.seeds seeded)

pub is_bad_first_back-requires : goal.is_bad_first_back-requires
is_bad_first_back-requires c = c.requires.0.row

pub returns-then-is_bad_first_back : goal.returns-then-is_bad_first_back
returns-then-is_bad_first_back c =
    let a = c.args in
    let x = sheet_of a.tables.now in
    -- there is a first seed
    let seeded : 0 < a.q.now.seeds = (let z : a.q.now.seeds ≡ 0 → ⊥ = c.if-q-eq0.false in omega arith) in
    λ _. nowhere-by x a.q.now a.n a.types.at a.q.now.never
    (λ w. (RowsKept a.tables.now.targets a.tables.now.lows a.tables.now.highs w × InLimits a.q.now.row.low a.q.now.row.high (target_count w a.q.now.row.slot 0)) × (SourcesKept a.tables.now.sources w × ColumnsKept a.tables.now.lines w × MirrorsKept a.tables.now.lines w))
    (λ w s. ((s.allowed.rows, s.asked.row seeded), (sources-kept x a.q.now a.n a.tables.now.sources c.args.tables.now.turned w s, s.allowed.columns, s.allowed.mirrors)))
    (c.is_bad_first_back.ensures c.if-is_bad_first_back.true a.tables.now.lows a.tables.now.highs a.q.now.seeds seeded)

pub is_bad_first_row-requires : goal.is_bad_first_row-requires
is_bad_first_row-requires c = c.requires.0.row

pub returns-then-is_bad_first_row : goal.returns-then-is_bad_first_row
returns-then-is_bad_first_row c =
    let a = c.args in
    let x = sheet_of a.tables.now in
    -- there is a first seed
    let seeded : 0 < a.q.now.seeds = (let z : a.q.now.seeds ≡ 0 → ⊥ = c.if-q-eq0.false in omega arith) in
    λ _. nowhere-by x a.q.now a.n a.types.at a.q.now.never (λ w. RowsKept a.tables.now.targets a.tables.now.lows a.tables.now.highs w × InLimits a.q.now.row.low a.q.now.row.high (target_count w a.q.now.row.slot 0))
    (λ w s. (s.allowed.rows, s.asked.row seeded)) (c.is_bad_first_row.ensures c.if-is_bad_first_row.true a.tables.now.targets a.q.now.seeds seeded)

pub is_bad_first_column-requires : goal.is_bad_first_column-requires
is_bad_first_column-requires c = c.requires.0.column

pub returns : goal.returns
returns c =
    let a = c.args in
    let x = sheet_of a.tables.now in
    -- there is a first seed
    let seeded : 0 < a.q.now.seeds = (let z : a.q.now.seeds ≡ 0 → ⊥ = c.if-q-eq0.false in omega arith) in
    λ t. nowhere-by x a.q.now a.n a.types.at a.q.now.never (FirstColumn a.tables.now.targets a.tables.now.sources a.tables.now.lows a.tables.now.highs a.tables.now.lines a.q.now.column.slot a.q.now.column.from a.q.now.column.least a.q.now.column.most)
    (first-column x a.q.now a.n a.tables.now.sources c.args.tables.now.turned seeded) (c.is_bad_first_column.ensures t a.q.now.seeds seeded)
