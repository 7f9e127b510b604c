-- `Scale::factor` meets its contract. Assumes nothing.
use Rattle.settings.specs.Times.{scale_factor}
use Rattle.settings.proofs.times.Scale.factor.Goals as goal

pub returns-in-Percent : goal.returns-in-Percent
unfolding scale_factor
returns-in-Percent c = rw (c.f32_to_f64_with_nan.ensures, c.clamp.ensures, c.in-Percent.is)

pub returns-in-Rate : goal.returns-in-Rate
unfolding scale_factor
returns-in-Rate c = rw (c.f32_to_f64_with_nan-in-Rate.ensures, c.clamp-in-Rate.ensures, c.in-Rate.is)
