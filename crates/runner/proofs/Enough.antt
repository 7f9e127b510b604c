-- Each call takes a byte or more, so `output` looks at all of them: `enough` of outputs/proofs/Enough.antt. Assumes nothing.
use Prim.Native.Nat.{ℕ, zero, suc, ◌+◌, ◌≤◌}
use mathlib.Core.Path.{◌≡◌}
use mathlib.Core.List.{List}
use lib.ListN.{length, get_or}
use Rattle.calls.specs.State.{State}
use Rattle.runs.proofs.Ahead.{Ahead, Steady, steady_ahead, steady_done, ahead_then, ahead_number, ahead_below, ahead_f32}
use Rattle.runs.proofs.Ahead.{ahead_settings, ahead_transport, ahead_restart, ahead_shape, ahead_path}
use Rattle.outputs.specs.Output.{none, given}
use Rattle.outputs.proofs.Tags.{steady_none, ahead_tagged}
use Rattle.outputs.proofs.Enough as outputs
use Rattle.runner.specs.Asked.{settings_call, shape_call, path_call, bus_call, phase_call, block_call, shape_at_call, path_at_call, legs_call, by_tag, asked}
use Rattle.runner.specs.Output.{players}

steady_tag : (tag : ℕ) → Steady (get_or by_tag tag none)
unfolding by_tag settings_call shape_call path_call bus_call phase_call block_call shape_at_call path_at_call legs_call
steady_tag zero = steady_ahead (ahead_then _ _ ahead_settings (λ c. steady_done _))
steady_tag (suc zero) = steady_ahead (ahead_then _ _ ahead_shape (λ s. steady_done _))
steady_tag (suc (suc zero)) = steady_ahead (ahead_then _ _ ahead_path (λ s. steady_done _))
steady_tag (suc (suc (suc zero))) = steady_ahead (ahead_then _ _ ahead_number (λ k. steady_ahead (ahead_then _ _ ahead_f32 (λ x. steady_done _))))
steady_tag (suc (suc (suc (suc zero)))) = steady_ahead (ahead_then _ _ ahead_transport (λ t. steady_done _))
steady_tag (suc (suc (suc (suc (suc zero))))) =
    steady_ahead
    (ahead_then _ _ ahead_transport λ t.
    steady_ahead
    (ahead_then _ _ ahead_number λ frames.
    steady_ahead
    (ahead_then _ _ ahead_restart λ at.
    steady_ahead
    (ahead_then _ _ (ahead_below 8193) λ x_len. steady_ahead (ahead_then _ _ (ahead_below 8193) λ y_len. steady_done _)))))
steady_tag (suc (suc (suc (suc (suc (suc zero)))))) =
    steady_ahead (ahead_then _ _ ahead_shape (λ s. steady_ahead (ahead_then _ _ ahead_f32 (λ x. steady_done _))))
steady_tag (suc (suc (suc (suc (suc (suc (suc zero))))))) =
    steady_ahead (ahead_then _ _ ahead_path (λ s. steady_ahead (ahead_then _ _ ahead_f32 (λ t. steady_done _))))
steady_tag (suc (suc (suc (suc (suc (suc (suc (suc zero)))))))) = steady_ahead (ahead_then _ _ ahead_path (λ s. steady_done _))
steady_tag (suc (suc (suc (suc (suc (suc (suc (suc (suc n))))))))) = steady_none

pub ahead_asked : Ahead asked
ahead_asked = ahead_tagged by_tag steady_tag

-- where the bound is the number of bytes left, a larger one changes nothing
pub enough : (most more : ℕ) (p : State) (run : List ℕ) (at : ℕ) → length run ≤ at + most → given players (most + more) p run at ≡ given players most p run at
enough = outputs.enough players ahead_asked
