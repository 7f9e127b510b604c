-- `generate` meets its contract. Assumes nothing.
use Rattle.std.proofs.Common.{w64}
use mir.ValLaws.{to_z-of_z}
use Rattle.voice.proofs.Generators.{the_first, drawn_ready, path_ready, drawn_gives, path_gives, chaos_gives, hold_gives}
use Rattle.voice.proofs.generator.generate.Goals as goal

pub traced-requires : goal.traced-requires
traced-requires c =
    let h = rw c.in-Path.is at c.requires in
    path_ready _ c.args.kept h.0 h.1

pub drawn-requires : goal.drawn-requires
drawn-requires c =
    let h = rw (the_first c.in-Drawn.is c.in_default.not-Path) at c.requires in
    drawn_ready _ c.args.kept h.0 h.1

pub returns-in-Path : goal.returns-in-Path
returns-in-Path c =
    let h = rw c.in-Path.is at c.requires in
    rw c.in-Path.is (path_gives _ _ _ _ _ c.args.kept _ _ h.0 (rw (← c.place-p.ensures) c.traced.ensures))

pub returns-in_default : goal.returns-in_default
returns-in_default c =
    let e = the_first c.in-Drawn.is c.in_default.not-Path in
    let h = rw e at c.requires in
    rw e (drawn_gives _ _ _ _ _ c.args.kept _ _ h.0 (rw (← c.place-p.ensures) c.drawn.ensures))

pub returns-in-Lorenz : goal.returns-in-Lorenz
returns-in-Lorenz c = chaos_gives _ _ _ _ _ c.args.kept _ _ _ c.in-Lorenz.is (rw (← c.attractor_of.ensures, ← c.step.ensures) c.chaotic.ensures)

pub returns-in-SampleAndHold : goal.returns-in-SampleAndHold
returns-in-SampleAndHold c = hold_gives c.args.settings.mode c.args.settings.direction _ c.args.block c.args.s c.args.kept c.args.c _ c.args.settings.kind c.in-SampleAndHold.is
    (rw (← c.cycle.ensures, ← to_z-of_z w64 c.cycle.result (record { sfits = c.cycle.type_inv })) c.held.ensures)
