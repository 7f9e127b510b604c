-- What making a player gives, of the equations of what it calls. Assumes nothing.
use Rattle.std.specs.Prelude.{Some, Ok, Err}
use Prim.Native.Nat.{ℕ, ◌^◌, ◌<◌}
use mathlib.Core.Path.{◌≡◌, sym}
use borrow.Author.Tests.{ne_eqb}
use lib.Dec.{lit<}
use lib.Ieee.{is_nan, of_bits}
use Rattle.settings.specs.declared.record.Settings.{Settings}
use Rattle.codes.specs.declared.SettingsCodes.{SettingsCodes}
use Rattle.settings.specs.Codes.{settings_at}
use Rattle.settings.specs.Records.{clamped_settings, default_settings}
use Rattle.reach.specs.Bounds.{SettingsIn}
use Rattle.questions.specs.declared.question.Question.{Question}
use Rattle.questions.specs.Answers.{question_number}
use Rattle.questions.specs.Questions.{first_no, settings_questions}
use Rattle.questions.proofs.Facts.{settings_in}
use Rattle.calls.specs.State.{new_state}
use Rattle.calls.specs.Calls.{made}
use Rattle.player.specs.declared.Player.{Player}
use Rattle.player.specs.Player.{state_of, new_player, Valid}
use Rattle.questions.proofs.Numbers.{number_not_zero}
use Rattle.player.specs.Promises.{Makes}
use Rattle.player.proofs.Players.{new_valid}

default_in : SettingsIn default_settings
unfolding is_nan of_bits
default_in = record { rate_number = tt; phase_number = tt; grid_in = lit< tt }

pub default_valid : (seed : ℕ) → Valid (new_player default_settings seed)
default_valid seed = new_valid default_settings seed default_in

module _ (c : SettingsCodes) (seed : ℕ) where
  abbrev number : ℕ
  number = first_no (settings_questions c)

  refused_is : (n : ℕ) → number ≡ n → (n ≡ 0 → ⊥) → state_of (new_player default_settings seed) ≡ made c seed
  unfolding made new_state
  refused_is n e h = rw (e, ne_eqb n 0 h)

  pub make_refused : (q : Question) → question_number q ≡ number → Makes c seed (Err q)
  make_refused q asked = record { answer_is = asked; state_is = refused_is _ (sym asked) (number_not_zero q); valid = default_valid seed }

  made_is : (s : Settings) → 0 ≡ number → settings_at c ≡ Some s → state_of (new_player s seed) ≡ made c seed
  unfolding made new_state
  made_is s asked known = rw (← asked, known)

  pub makes_player : 0 ≡ number → (s : Settings) → settings_at c ≡ Some s → (p : Player) → p ≡ new_player s seed → p.page.settings.grid_x < 2 ^ 16 → Makes c seed (Ok p)
  unfolding clamped_settings
  makes_player asked s known p e grid =
      rw e
      (record { answer_is = asked; state_is = made_is s asked known; valid = new_valid s seed (settings_in c (sym asked) s known (rw e at grid)) })
