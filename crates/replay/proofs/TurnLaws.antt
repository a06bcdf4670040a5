-- One call of a list. What the bench promises of the call is a step; where the reply fits, the call goes on with it, and where it
-- does not, the list stops there.
-- Assumes nothing.
use Prim.Native.Nat.{ℕ, ◌*◌, ◌+◌, ◌<◌, ◌≤◌}
use native.Mathlib.Decide.{dec_le}
use native.Mathlib.Omega.{arith}
use mathlib.Core.List.{List, [], ◌++◌}
use mathlib.Core.Logic.{◌⊎◌, ◌≢◌}
use mathlib.Core.Path.{◌≡◌, refl, sym, ap, ◌∙◌, subst}
use lib.ListN.{length, take, drop, length-append, length-drop, length-take}
use borrow.Rule.Slice.PartMut.{put_mid}
use Rattle.laws.specs.Lists.{over}
use Rattle.laws.proofs.OverLaws.{over-mid}
use Rattle.steps.specs.Bench as steps
use Rattle.steps.specs.Bench.{Call, Outcome}
use Rattle.bench.specs.Calls.{Does, DoesWith}
use Rattle.steps.specs.Effect.{effect}
use Rattle.steps.specs.Step.{Step}
use Rattle.bench.specs.View.{bench_of, reply_of}
use Rattle.bench.specs.declared.parts.Bench.{Bench}
use Rattle.bench.specs.declared.Listed.{Listed}
use Rattle.bench.specs.declared.Replied.{Replied}
use Rattle.std.specs.Prelude.{Option, None, Some}
use Rattle.coding.specs.declared.Next.{Next}
use Rattle.coding.specs.CallBytes.{call, call_of, next_of, operands_of, read_call}
use Rattle.coding.specs.Puts.{Puts}
use Rattle.coding.specs.ReplyBytes.{bytes_by, head_bytes, outcome_bytes, reply_bytes}
use Rattle.coding.proofs.CallLaws.{Whole, lends-none, lends-some, read-call, read-halt, whole-call}
use Rattle.coding.proofs.ReplyLaws.{five-bytes}
use Rattle.replay.specs.Replays.{Replays, full, goes, halts}
use Rattle.replay.specs.Turned.{Turned, Went, Wrote}
use Rattle.replay.specs.declared.Turn.{Turn}

pub turned-halt : (b : Bench) (s room : List ℕ) {x : Option Next} → x ≡ next_of s (length room) → x ≡ None → Turned b s room None b room
turned-halt b s room e k = (halts (read-halt s room e k), refl)

-- ---- a call whose outcome has the bytes xs, and that leaves the bench e

module _ (b : Bench) (s room : List ℕ) (after : List ℕ) (c : Call) (o : Outcome) (k : ℕ)
    (reads-it : read_call s room ≡ call c (drop k s)) (step : Step (bench_of b) c o) (some : 0 < k) (little : k ≤ length s)
    (e : Bench) (left : bench_of e ≡ o.bench) (xs : List ℕ) (coded : outcome_bytes c o ≡ xs) where
  turned-fits : (t : Turn) → t.used ≡ k → length xs ≤ length room → t.wrote ≡ length xs → after ≡ over xs room → Went b s room t e after
  turned-fits t used f w a = record {
    reply = xs;
    some = omega (arith, used, some);
    little = omega (arith, used, little);
    count = w;
    fits = f;
    bytes = a;
    on = λ more r. subst (λ (y : List ℕ). Replays (bench_of b) s room (y ++ more)) coded
        (goes o reads-it step (omega (arith, ap length coded, f)) (rw (coded) (rw (left, used, w) at r)));
  }

  turned : (x : Option Turn) → Wrote k xs room x after → Turned b s room x e after
  turned (Some t) p = by (dec_le (length xs) (length room))
    where
      by : Dec (length xs ≤ length room) → Went b s room t e after
      by (yes h) =
          let q = p.1.fits h in
          let w : t.wrote ≡ length xs = cc in
          turned-fits t p.0 h w q.1
      by (no h) =
          let far : length room < length xs = omega (arith, h) in
          let q = p.1.not-fits far in
          absurd (cc)
  turned None p = by (dec_le (length xs) (length room))
    where
      by : Dec (length xs ≤ length room) → Replays (bench_of b) s room [] × (after ≡ room)
      by (yes h) = let q = p.fits h in absurd (cc)
      by (no h) =
          let far : length room < length xs = omega (arith, h) in
          (full o reads-it step (omega (arith, ap length coded, far)), (p.not-fits far).1)

-- ---- the calls, by what they are lent and give

module _ (b : Bench) (s room : List ℕ) {y : Option Next} (e : y ≡ next_of s (length room)) (n : Next) (some : y ≡ Some n) where
  all : Whole s (length room) n
  all = whole-call s (length room) n e some

  -- the call at code k
  called : (k : ℕ) → n.code ≡ k → read_call s room ≡ call (call_of k (operands_of s room n)) (drop n.used s)
  called k q = read-call s room e n some ∙ ap (λ (j : ℕ). call (call_of j (operands_of s room n)) (drop n.used s)) q

  -- a call that is lent no buffer
  pub turned_plain : (x : Option Turn) (after : List ℕ) {file rest : List ℕ} {d : Replied} → n.code ≢ 7 → n.code ≢ 9 → rest ≡ drop n.from s → file ≡ take n.len rest
      → ((buffer : List ℕ) → Does b (call_of n.code (record { byte = n.byte; file = file; buffer = buffer })) d [])
      → Wrote n.used (reply_bytes (reply_of d.reply [])) room x after → Turned b s room x d.bench after
  unfolding outcome_bytes bytes_by
  turned_plain x after {d = d} not-7 not-9 er ef does q =
      let o = operands_of s room n in
      let c = call_of n.code o in
      let did : Does b c d [] = subst (λ (f : List ℕ). Does b (call_of n.code (record { byte = n.byte; file = f; buffer = o.buffer })) d []) (ef ∙ ap (take n.len) er) (does o.buffer) in
      turned b s room after c _ n.used (read-call s room e n some) did.step all.some all.little d.bench refl
      (reply_bytes (reply_of d.reply [])) (rw (lends-none n.code o all.known not-7 not-9)) x q

  -- compile: its list stands beside its reply
  pub turned-compile : (x : Option Turn) (after : List ℕ) {d : Listed} → n.code ≡ 4 → DoesWith b (steps.Compile n.byte) d
      → Wrote n.used (reply_bytes (reply_of d.reply d.list)) room x after → Turned b s room x d.bench after
  unfolding call_of outcome_bytes bytes_by effect
  turned-compile x after {d} k does q =
      turned b s room after (steps.Compile n.byte) _ n.used (called 4 k) does.step all.some all.little
      d.bench refl (reply_bytes (reply_of d.reply d.list)) refl x q

  pub lend-fits : (n.code ≡ 7) ⊎ (n.code ≡ 9) → 5 + n.lend ≤ length room
  lend-fits k = subst (λ (j : ℕ). j * 5 + n.lend ≤ length room) (lends-some n.code (operands_of s room n) k).one all.fits

  -- a call that is lent a buffer: it lies behind the reply's own first five bytes
  pub turned-lent : (after es mid : List ℕ) (k : ℕ) (m : Option ℕ) (d : Replied) {file rest : List ℕ} → (n.code ≡ 7) ⊎ (n.code ≡ 9) → k ≡ n.lend
      → length (put_mid 5 k room es) ≡ length room → rest ≡ drop n.from s → file ≡ take n.len rest
      → ((byte : ℕ) → Does b (call_of n.code (record { byte = byte; file = file; buffer = take k (drop 5 room) })) d es)
      → mid ≡ put_mid 5 k room es → Puts (head_bytes (reply_of d.reply [])) mid m after
      → Turned b s room (Some (record { used = n.used; wrote = 5 + n.lend })) d.bench after
  unfolding outcome_bytes bytes_by
  turned-lent after es mid k m d {file} code kn len er ef does em p =
      let o = operands_of s room n in
      let fits = lend-fits code in
      let hs = head_bytes (reply_of d.reply []) in
      let five = five-bytes (reply_of d.reply []) in
      let size : length es ≡ n.lend = omega (
        arith,
        len,
        kn,
        length-append (take 5 room) (es ++ drop k (drop 5 room)),
        length-append es (drop k (drop 5 room)),
        length-take 5 room,
        length-drop k (drop 5 room),
        length-drop 5 room,
        fits,
      ) in
      let whole : length (hs ++ es) ≡ 5 + n.lend = omega (arith, length-append hs es, five, size) in
      let total : length mid ≡ length room = ap length em ∙ len in
      let bytes : after ≡ over (hs ++ es) room =
      (p.fits (omega (arith, five, total, fits))).1 ∙ ap (over hs) (em ∙ ap (λ (j : ℕ). put_mid 5 j room es) kn) ∙ over-mid hs es room 5 n.lend five size fits in
      let did : Does b (call_of n.code o) d es =
      subst (λ (f : List ℕ). Does b (call_of n.code (record { byte = n.byte; file = f; buffer = o.buffer })) d es) (ef ∙ ap (take n.len) er)
      (subst (λ (j : ℕ). Does b (call_of n.code (record { byte = n.byte; file = file; buffer = take j (drop 5 room) })) d es) kn (does n.byte)) in
      turned-fits b s room after (call_of n.code o) _ n.used (read-call s room e n some) did.step all.some all.little
      d.bench refl (hs ++ es) (rw ((lends-some n.code o code).lends)) (record { used = n.used; wrote = 5 + n.lend }) refl
      (omega (arith, whole, fits)) (sym whole) bytes
