use Rattle.forms.proofs.lightest_forms.Goals as goal
use Rattle.forms.proofs.Whole.{lightest_forms}

pub returns : goal.returns
returns c = lightest_forms
