use Rattle.std.proofs.Common.{◌≡◌, ℕ, Fits, w64, ◌*◌, ◌<◌, arith}
use Rattle.std.proofs.lemmas.Nat.{mul-lt}
use Rattle.vm_host.proofs.obey.kib_of.Goals as goal

kib-fit : (pages page wide kib : ℕ) → wide ≡ pages → kib ≡ page → pages < 4294967296 → page < 4294967296 → Fits w64 (wide * kib)
kib-fit pages page wide kib same unit few small =
    let fits = mul-lt wide kib 4294967296 4294967296 (omega (arith, same, few)) (omega (arith, unit, small)) in
    omega (arith, fits)

pub overflow_mul-result : goal.overflow_mul-result
overflow_mul-result c = kib-fit c.args.pages c.args.page c.from.result c.from-2.result c.from.ensures c.from-2.ensures c.ranges.pages.fits c.ranges.page.fits
