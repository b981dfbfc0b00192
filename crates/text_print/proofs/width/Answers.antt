use Rattle.text_print.proofs.width.Goals as goal

pub returns-then-n-lt100000 : goal.returns-then-n-lt100000
returns-then-n-lt100000 c = record { value = c.short_width.ensures.value; upper_bound = c.short_width.ensures.upper_bound }

pub returns : goal.returns
returns c = record { value = c.long_width.ensures.value; upper_bound = c.long_width.ensures.upper_bound }
