-- Each call takes a byte or more, so `output` looks at all of them: `enough` of outputs/proofs/Enough.antt. Assumes nothing.
use Prim.Native.Nat.{ℕ, zero, suc, ◌+◌, ◌≤◌}
use mathlib.Core.Path.{◌≡◌}
use mathlib.Core.List.{List}
use lib.ListN.{length, get_or}
use Rattle.runs.proofs.Ahead.{Ahead, Steady, steady_ahead, steady_done, ahead_then, ahead_number, ahead_below, ahead_f32}
use Rattle.runs.proofs.Ahead.{ahead_settings, ahead_transport, ahead_shape, ahead_path}
use Rattle.outputs.specs.Output.{none, given}
use Rattle.outputs.proofs.Tags.{steady_none, ahead_tagged}
use Rattle.outputs.proofs.Enough as outputs
use Rattle.ensemble_calls.specs.Ensembles.{EnsembleState}
use Rattle.ensemble_runner.specs.Asked.{settings_call, shape_call, path_call, bus_call, phase_call, block_call, trigger_call, by_tag, asked}
use Rattle.ensemble_runner.specs.Output.{ensembles}

steady_tag : (tag : ℕ) → Steady (get_or by_tag tag none)
unfolding by_tag settings_call shape_call path_call bus_call phase_call block_call trigger_call
steady_tag zero = steady_ahead (ahead_then _ _ ahead_settings (λ c. steady_ahead (ahead_then _ _ ahead_number (λ shared. steady_done _))))
steady_tag (suc zero) = steady_ahead (ahead_then _ _ ahead_shape (λ s. steady_done _))
steady_tag (suc (suc zero)) = steady_ahead (ahead_then _ _ ahead_path (λ s. steady_done _))
steady_tag (suc (suc (suc zero))) = steady_ahead (ahead_then _ _ ahead_number (λ k. steady_ahead (ahead_then _ _ ahead_f32 (λ x. steady_done _))))
steady_tag (suc (suc (suc (suc zero)))) = steady_ahead (ahead_then _ _ ahead_number (λ v. steady_ahead (ahead_then _ _ ahead_transport (λ t. steady_done _))))
steady_tag (suc (suc (suc (suc (suc zero))))) =
    steady_ahead
    (ahead_then _ _ ahead_transport λ t.
    steady_ahead
    (ahead_then _ _ ahead_number λ frames.
    steady_ahead
    (ahead_then _ _ (ahead_below 65601) λ x_len. steady_ahead (ahead_then _ _ (ahead_below 65601) λ y_len. steady_done _))))
steady_tag (suc (suc (suc (suc (suc (suc zero)))))) = steady_none
steady_tag (suc (suc (suc (suc (suc (suc (suc zero))))))) = steady_none
steady_tag (suc (suc (suc (suc (suc (suc (suc (suc zero)))))))) = steady_none
steady_tag (suc (suc (suc (suc (suc (suc (suc (suc (suc zero))))))))) =
    steady_ahead (ahead_then _ _ ahead_number (λ v. steady_ahead (ahead_then _ _ ahead_number (λ frame. steady_done _))))
steady_tag (suc (suc (suc (suc (suc (suc (suc (suc (suc (suc n)))))))))) = steady_none

pub ahead_asked : Ahead asked
ahead_asked = ahead_tagged by_tag steady_tag

-- where the bound is the number of bytes left, a larger one changes nothing
pub enough : (most more : ℕ) (e : EnsembleState) (run : List ℕ) (at : ℕ) → length run ≤ at + most → given ensembles (most + more) e run at ≡ given ensembles most e run at
enough = outputs.enough ensembles ahead_asked
