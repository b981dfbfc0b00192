-- The same given has the same level. Assumes nothing.
use mathlib.Core.Path.{◌≡◌, refl, sym, ap, ◌∙◌}
use Rattle.chip_mixer.specs.Mixer.{weight, squares_level, rest_level, mixed}
use Rattle.chip.specs.Level.{state_level}
use Rattle.chip.specs.declared.State.{State}
use Rattle.run_plain.specs.Heard.{given_of, mixed_of, heard_of, silence}
use Rattle.run_plain.specs.declared.Heard.{Heard}

-- the level of a state is that of what it gives
pub level_given : (s : State) → state_level s ≡ mixed_of (given_of s)
unfolding state_level mixed_of given_of
level_given s = refl

-- where nothing else is given, what was heard is heard
pub heard_same : (h : Heard) (s : State) → h.level ≡ mixed_of h.given → given_of s ≡ h.given → h ≡ heard_of s
unfolding heard_of
heard_same h s l g =
    let v : h.level ≡ state_level s = l ∙ sym (level_given s ∙ ap mixed_of g) in
    both_are (sym g) v
  where
    both_are : h.given ≡ given_of s → h.level ≡ state_level s → h ≡ record { given = given_of s; level = state_level s }
    both_are g v i = record { given = g i; level = v i }

pub heard_is : (s : State) → (heard_of s).level ≡ state_level s
unfolding heard_of
heard_is s = refl

pub heard_level : (s : State) → (heard_of s).level ≡ mixed_of (heard_of s).given
unfolding heard_of
heard_level s = level_given s

pub silence_level : silence.level ≡ mixed_of silence.given
unfolding silence mixed_of mixed squares_level rest_level weight
silence_level = refl
