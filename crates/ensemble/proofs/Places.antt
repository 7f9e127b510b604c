-- Where a block's values stand: frame k of voice v at k × voices + v, as lfo/bank.rs has it. Assumes nothing.
use mathlib.Core.Path.{◌≡◌, sym, ap, ◌∙◌}
use Prim.Native.Nat.{ℕ, ◌+◌, ◌*◌, ◌≤◌, ◌<◌}
use native.Mathlib.Omega.{arith}
use mathlib.Core.List.{List, [], ◌++◌, map}
use lib.ListN.{length, get_or, take, drop, length-map}
use lib.Seq.{length-take-le, get_or-take}
use lib.Ieee.{Float, nan}
use Rattle.columns.specs.Columns.{interleaved}
use Rattle.columns.proofs.Places.{get_or_map_in, column_at}
use Rattle.voice.specs.Frame.{Frame}
use Rattle.ensemble.specs.declared.BlockPage.{BlockPage}
use Rattle.ensemble.specs.declared.Member.{Member}
use Rattle.ensemble.specs.Ensemble.{member_outs, no_member, buffer_after}

-- a block gives a voice what the page and its own record say, whatever the other records and the buffer held
pub own_column : (p : BlockPage) (f : Frame → Float) (voices : List Member) (l : List Float) (k v : ℕ) → k < p.frames → v < p.voices → p.voices ≤ length voices
    → get_or (buffer_after p f voices l) (k * p.voices + v) nan ≡ get_or (member_outs p f (get_or voices v no_member)) k nan
own_column p f voices l k v h one listed =
    let n = p.voices in
    let cols = map (member_outs p f) (take n voices) in
    let wide : length cols ≡ n = length-map (take n voices) (member_outs p f) ∙ length-take-le n voices listed in
    ap (λ (i : ℕ). get_or (interleaved nan p.frames cols ++ drop (p.frames * n) l) (k * i + v) nan) (sym wide)
    ∙ column_at nan p.frames cols (drop (p.frames * n) l) k v h (omega (arith, wide))
    ∙ ap (λ (c : List Float). get_or c k nan)
    (get_or_map_in (member_outs p f) (take n voices) v no_member [] (omega (arith, length-take-le n voices listed)) ∙ ap (member_outs p f) (get_or-take n voices v no_member one))
