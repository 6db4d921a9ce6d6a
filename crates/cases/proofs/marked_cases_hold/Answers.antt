use Rattle.std.proofs.Common.{refl}
use Rattle.std.specs.Int.{int_wrap}
use Rattle.grammar.specs.Words.{name_of}
use Rattle.grammar.specs.Reading.{parse}
use Rattle.semantics.specs.Meaning.{meaning, run}
use Rattle.cases.proofs.marked_cases_hold.Goals as goal

pub returns : goal.returns
unfolding parse name_of meaning run int_wrap
returns c = (
  (_, refl, refl),
  (
    (_, refl, refl),
    (
      (_, refl, refl),
      (
        (_, refl, refl),
        (
          (_, refl, (refl, refl)),
          (
            (_, refl, refl),
            (
              (_, refl, refl),
              (
                (_, refl, refl),
                (
                  (_, refl, refl),
                  (
                    (_, refl, refl),
                    tt,
                  ),
                ),
              ),
            ),
          ),
        ),
      ),
    ),
  ),
)
