use Rattle.std.proofs.Common.{◌≡◌, ◌++◌, ℕ, List, [], ap, ◌∙◌}
use Rattle.std.proofs.lemmas.List.{append-nil}
use Rattle.vm_balloon.specs.declared.device.Queue.TheVariants.{Statistics}
use Rattle.vm_balloon.specs.Device.{with_posted}
use Rattle.vm_guest.specs.Driver.{statistic}
use Rattle.vm_guest.proofs.draft.post_statistics.Goals as goal

-- four lists, one after the other
one-after : (a b c d wa wb wc wd : List ℕ) → a ≡ wa → b ≡ wb → c ≡ wc → d ≡ wd → a ++ (b ++ (c ++ (d ++ []))) ≡ wa ++ (wb ++ (wc ++ wd))
one-after a b c d wa wb wc wd first second third fourth =
    (λ i. first i ++ (second i ++ (third i ++ (fourth i ++ [])))) ∙ (λ i. wa ++ (wb ++ (wc ++ append-nil wd i)))

pub returns : goal.returns
returns c =
    c.post.ensures
    ∙ ap (with_posted c.args.device.now Statistics)
    (c.as_flattened.ensures.value
    ∙ one-after c.encode_stat.result c.encode_stat-2.result c.encode_stat-3.result c.encode_stat-4.result
    (statistic 3 c.args.minor_faults) (statistic 4 c.args.free) (statistic 5 c.args.total) (statistic 6 c.args.free)
    c.encode_stat.ensures.bytes c.encode_stat-2.ensures.bytes c.encode_stat-3.ensures.bytes c.encode_stat-4.ensures.bytes)
