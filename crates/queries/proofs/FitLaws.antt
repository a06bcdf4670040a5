-- The queries that are asked, and that a search takes them.
-- Assumes nothing.
use Prim.Native.Nat.{◌<◌, ℕ}
use mathlib.Core.Path.{◌≡◌, subst, sym}
use native.Mathlib.Omega.{arith}
use Rattle.worlds.specs.declared.Query.{Query}
use Rattle.worlds.specs.Asked.{Sane}
use Rattle.queries.specs.Forms.{barred, linked, seeded}
use Rattle.queries.proofs.AskedLaws.{Fit, fit-barred, fit-linked, fit-seeded}

-- an object of the types a has a link in slot s to another, of the types b
abbrev pub link_query : ℕ → ℕ → ℕ → Query
link_query s a b = linked (seeded 2 a b 0) s 0 1

-- and to itself
abbrev pub loop_query : ℕ → ℕ → Query
loop_query s a = linked (seeded 1 a 0 0) s 0 0

-- without the link back in slot u
abbrev pub half_query : ℕ → ℕ → ℕ → ℕ → Query
half_query s u a b = barred (link_query s a b) u 1 0

abbrev pub half_loop_query : ℕ → ℕ → ℕ → Query
half_loop_query s u a = barred (loop_query s a) u 0 0

-- an object of the types a is a target of two others, of the types b in slot s and of the types c in slot u
abbrev pub part_query : ℕ → ℕ → ℕ → ℕ → ℕ → Query
part_query s u a b c = linked (linked (seeded 3 a b c) s 1 0) u 2 0

-- and of its own and one other
abbrev pub own_part_query : ℕ → ℕ → ℕ → ℕ → Query
own_part_query s u a b = linked (linked (seeded 2 a b 0) s 0 0) u 1 0

pub fit-link : (s a b : ℕ) → s < 32 → Fit 2 (link_query s a b)
fit-link s a b h = fit-linked 2 (seeded 2 a b 0) s (fit-seeded 2 a b 0 (omega arith)) h 0 1 (omega arith) (omega arith)

pub fit-loop : (s a : ℕ) → s < 32 → Fit 1 (loop_query s a)
fit-loop s a h = fit-linked 1 (seeded 1 a 0 0) s (fit-seeded 1 a 0 0 (omega arith)) h 0 0 (omega arith) (omega arith)

pub fit-half : (s u a b : ℕ) → s < 32 → u < 32 → Fit 2 (half_query s u a b)
fit-half s u a b h k = fit-barred 2 (link_query s a b) u (fit-link s a b h) k 1 0 (omega arith) (omega arith)

pub fit-half-loop : (s u a : ℕ) → s < 32 → u < 32 → Fit 1 (half_loop_query s u a)
fit-half-loop s u a h k = fit-barred 1 (loop_query s a) u (fit-loop s a h) k 0 0 (omega arith) (omega arith)

pub fit-first : (s a b c : ℕ) → s < 32 → Fit 3 (linked (seeded 3 a b c) s 1 0)
fit-first s a b c h = fit-linked 3 (seeded 3 a b c) s (fit-seeded 3 a b c (omega arith)) h 1 0 (omega arith) (omega arith)

pub fit-part : (s u a b c : ℕ) → s < 32 → u < 32 → Fit 3 (part_query s u a b c)
fit-part s u a b c h k = fit-linked 3 (linked (seeded 3 a b c) s 1 0) u (fit-first s a b c h) k 2 0 (omega arith) (omega arith)

pub fit-own : (s a b : ℕ) → s < 32 → Fit 2 (linked (seeded 2 a b 0) s 0 0)
fit-own s a b h = fit-linked 2 (seeded 2 a b 0) s (fit-seeded 2 a b 0 (omega arith)) h 0 0 (omega arith) (omega arith)

pub fit-own-part : (s u a b : ℕ) → s < 32 → u < 32 → Fit 2 (own_part_query s u a b)
fit-own-part s u a b h k = fit-linked 2 (linked (seeded 2 a b 0) s 0 0) u (fit-own s a b h) k 1 0 (omega arith) (omega arith)

pub sane-of : {k : ℕ} {q z : Query} → q ≡ z → Fit k z → Sane q
sane-of e f = subst Sane (sym e) f.sane
