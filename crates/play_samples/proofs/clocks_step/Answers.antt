use Prim.Native.Nat.{ℕ, ◌-◌, ◌/◌}
use mathlib.Core.Path.{ap, ◌∙◌}
use native.Mathlib.Omega.{arith}
use lib.ListN.{length}
use Rattle.play_samples.specs.Stepping.{clocks_step, heard, passed_of, passed}
use Rattle.play_samples.specs.declared.Place.{Place}
use Rattle.play_samples.specs.declared.Next.{Next}
use Rattle.arith.specs.Over.{over}
use Rattle.wav_write.specs.Bytes.{sample_bytes}
use Rattle.play_samples.proofs.HeardLaws.{clocks_said, clocks_bytes, clocks_fit}
use Rattle.play_samples.proofs.clocks_step.Goals as goal

pub runs_on-w-requires : goal.runs_on-w-requires
runs_on-w-requires c =
    let a = c.args in
    let h = clocks_fit a.memory.now a.rate (length a.out.now / 2) a.p c.clocks_in-k.result c.clocks_in-k.ensures c.requires.fit in record { memory_len = (c.requires.memory_len.0, c.requires.memory_len.1, omega arith); fit = rw c.sampler_at-a.ensures h.0; s_in_bounds = rw c.sampler_at-a.ensures (omega (arith, h.1)) }

pub overflow_cast-count : goal.overflow_cast-count
overflow_cast-count c =
    let a = c.args in
    let k = c.clocks_in-k.result in
    let h = clocks_fit a.memory.now a.rate (length a.out.now / 2) a.p k c.clocks_in-k.ensures c.requires.fit in
    let r = c.runs_on-w in
    let w = rw c.sampler_at-a.ensures at r.ensures.writes in
    omega (arith, w.place, h.2, h.0.few)

pub clocks_past-requires : goal.clocks_past-requires
clocks_past-requires c = omega (arith, c.requires.fit.early)

pub returns : goal.returns
returns c =
    let a = c.args in
    let k = c.clocks_in-k.result in
    let h = clocks_fit a.memory.now a.rate (length a.out.now / 2) a.p k c.clocks_in-k.ensures c.requires.fit in
    let r = c.runs_on-w in
    let w = rw c.sampler_at-a.ensures at r.ensures.writes in
    let e = c.clocks_in-k.ensures in
    let memory = c.args.memory.now in
    let far = c.runs_on-w.result.state in record {
      value = c.passed_of.ensures
          ∙ (ap (λ (q : Place). passed_of (Next.Heard (r.result.place / 2)) q) c.clocks_past.ensures
          ∙ (clocks_said memory a.rate k a.p a.out.now _ r.result.place r.result.sampler far w r.ensures.state_value
          ∙ ap (λ (j : ℕ). passed (clocks_step memory a.rate j a.p)) e));
      out_after = clocks_bytes memory a.rate k a.p a.out.now _ r.result.place r.result.sampler far w (omega (arith, h.1))
          ∙ ap (λ (j : ℕ). over (sample_bytes (heard (clocks_step memory a.rate j a.p).said)) a.out.now) e;
    }
